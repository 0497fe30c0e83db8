use Rattle.std.proofs.Common.{◌≡◌, ℕ, ◌+◌, ◌++◌, ◌/◌, ◌%◌, List, [], ◌∷◌, arith, ◌∙◌, append_assoc}
use Rattle.fact_binary.specs.Numbers.{unsigned}
use Rattle.fact_binary.proofs.Groups.{unsigned-small, unsigned-big}
use Rattle.fact_binary.proofs.number.push_unsigned.Goals as goal

pushed : (out old new : List ℕ) (b : ℕ) (more all : List ℕ) (rest : List ℕ) → new ≡ out ++ b ∷ [] → rest ≡ b ∷ more → out ++ rest ≡ old ++ all → new ++ more ≡ old ++ all
pushed out old new b more all rest e f so_far = rw (e, append_assoc) (rw f at so_far)

pub loop-rest-preserved : goal.loop-rest-preserved
loop-rest-preserved c =
    let e = unsigned-big c.loop-rest.rest c.loop-rest-test.true (omega arith) in
    record {
      below = omega arith;
      bytes = pushed c.loop-rest.out.items c.args.out.now.items c.push.new.self.items (c.loop-rest.rest % 128 + 128) (unsigned (c.loop-rest.rest / 128)) (unsigned c.args.n) (unsigned c.loop-rest.rest) c.in_ok-push.ensures.items e c.loop-rest.invariant.bytes;
    }

pub returns : goal.returns
returns c = let e = unsigned-small c.loop-rest.rest c.loop-rest-test.false in
    c.in_ok-push-2.ensures.items ∙ rw e at c.loop-rest.invariant.bytes
