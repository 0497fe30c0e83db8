use Rattle.fact_explain.proofs.sides.needs_of.Goals as goal

pub returns : goal.returns
returns c = λ ps rs h.
    let p = c.in_ok-params.ensures ps rs h in
    let r = c.in_ok-results.ensures ps rs h in
    record {
      params = p.by_pointer;
      results = r.by_pointer;
      memory = rw (p.by_pointer, r.by_pointer, p.holds_pointer, r.holds_pointer) at c.needs_memory.ensures;
      realloc = rw (p.by_pointer, p.holds_pointer, r.holds_pointer) at c.needs_realloc.ensures;
    }
