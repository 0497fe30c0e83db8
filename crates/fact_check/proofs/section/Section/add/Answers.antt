use Rattle.fact_check.proofs.Sections.{adds_function, adds_memory, adds_global}
use Rattle.fact_check.proofs.section.Section.add.Goals as goal

pub returns-in-Func : goal.returns-in-Func
returns-in-Func c before h = adds_function c.args.self.now before c.args.import.now c.in-Func.ty c.push.new.self c.push.result c.in-Func.is c.push.ensures.ok h

pub returns-in-Memory : goal.returns-in-Memory
returns-in-Memory c before h = adds_memory c.args.self.now before c.args.import.now c.in-Memory.minimum c.in-Memory.memory64 c.in-Memory.page_size_log2 c.push-in-Memory.new.self c.push-in-Memory.result c.in-Memory.is c.push-in-Memory.ensures.ok h

pub returns-in-Global : goal.returns-in-Global
returns-in-Global c before h = adds_global c.args.self.now before c.args.import.now c.in-Global.ty c.in-Global.mutable c.push-in-Global.new.self c.push-in-Global.result c.in-Global.is c.push-in-Global.ensures.ok h
