-- Calls one after another, and what they tell.
use Rattle.std.proofs.Common.{◌≡◌, inl, inr, List, [], ◌∷◌, ◌++◌, refl, sym, ap, ◌∙◌, subst, arith, append_assoc}
use Rattle.std.proofs.lemmas.List.{append-nil}
use Rattle.fact_actions.specs.Running.{Call}
use Rattle.fact_action_laws.specs.Items.{ValueItem, HandleItem, RegionItem, TextItem, crossing, crossings, number_if, numbers, asked_by, requests, IsItemCalls, AreItemCalls, BeginItemCalls}

pub numbers_append : (cs ds : List Call) → numbers (cs ++ ds) ≡ numbers cs ++ numbers ds
numbers_append [] ds = refl
numbers_append (x ∷ cs) ds = ap (λ l. number_if (crossing x.what x.args) x.answer ++ l) (numbers_append cs ds) ∙ sym (append_assoc (number_if (crossing x.what x.args) x.answer) (numbers cs) (numbers ds))

pub crossings_append : (cs ds : List Call) → crossings (cs ++ ds) ≡ crossings cs ++ crossings ds
crossings_append [] ds = refl
crossings_append (x ∷ cs) ds = ap (λ l. crossing x.what x.args ++ l) (crossings_append cs ds) ∙ sym (append_assoc (crossing x.what x.args) (crossings cs) (crossings ds))

pub requests_append : (cs ds : List Call) → requests (cs ++ ds) ≡ requests cs ++ requests ds
requests_append [] ds = refl
requests_append (x ∷ cs) ds = ap (λ l. asked_by x.what x.args ++ l) (requests_append cs ds) ∙ sym (append_assoc (asked_by x.what x.args) (requests cs) (requests ds))

-- the calls of items, and of others behind them
pub told_append : (is js : List ValueItem) (cs ds : List Call) → AreItemCalls is cs → AreItemCalls js ds → AreItemCalls (is ++ js) (cs ++ ds)
told_append [] js cs ds h k = subst (λ l. AreItemCalls js (l ++ ds)) (sym h) k
told_append (i ∷ is) js cs ds h k =
    record { first = h.first; others = h.others ++ ds; is = ap (λ l. l ++ ds) h.is ∙ append_assoc h.first h.others ds; left = h.left; right = told_append is js h.others ds h.right k }

-- nothing is asked yet
pub begun_none : (is : List ValueItem) → BeginItemCalls is []
begun_none [] = refl
begun_none (HandleItem x ∷ is) = inl refl
begun_none (RegionItem a n ∷ is) = inl (record { crosses = refl; asks = inl refl; few = omega arith })
begun_none (TextItem t ∷ is) = inl (record { crosses = refl; few = omega arith })

-- what is begun of the first items
pub begun_first : (is js : List ValueItem) (cs : List Call) → BeginItemCalls is cs → BeginItemCalls (is ++ js) cs
begun_first [] js cs h = subst (BeginItemCalls js) (sym h) (begun_none js)
begun_first (i ∷ is) js cs h = elim h [ inl b ↦ inl b | inr s ↦ inr (record { first = s.first; others = s.others; is = s.is; left = s.left; right = begun_first is js s.others s.right }) ]

-- what is begun behind the first items
pub begun_later : (is js : List ValueItem) (cs ds : List Call) → AreItemCalls is cs → BeginItemCalls js ds → BeginItemCalls (is ++ js) (cs ++ ds)
begun_later [] js cs ds h k = subst (λ l. BeginItemCalls js (l ++ ds)) (sym h) k
begun_later (i ∷ is) js cs ds h k =
    inr (record { first = h.first; others = h.others ++ ds; is = ap (λ l. l ++ ds) h.is ∙ append_assoc h.first h.others ds; left = h.left; right = begun_later is js h.others ds h.right k })

-- the calls of all items have begun
pub begun_all : (is : List ValueItem) (cs : List Call) → AreItemCalls is cs → BeginItemCalls is cs
begun_all [] cs h = h
begun_all (i ∷ is) cs h = inr (record { first = h.first; others = h.others; is = h.is; left = h.left; right = begun_all is h.others h.right })

-- the calls of one item
pub told_one : (i : ValueItem) (cs : List Call) → IsItemCalls i cs → AreItemCalls (i ∷ []) cs
told_one i cs h = record { first = cs; others = []; is = sym (append-nil cs); left = h; right = refl }
