-- The numbers and the lines of the ends of a run.
use Rattle.std.specs.Prelude.{ℕ, List, [], codes}
use Rattle.fact_command.specs.declared.status.Status.{Status}
use Rattle.fact_command.specs.declared.status.Status.TheVariants as status

abbrev pub exit_status_of : Status → ℕ
exit_status_of status.Done = 0
exit_status_of status.Usage = 2
exit_status_of status.ReadFault = 3
exit_status_of status.WriteFault = 4
exit_status_of status.TooLong = 5
exit_status_of status.NotJson = 6
exit_status_of status.BadPlan = 7
exit_status_of status.Refused = 8
exit_status_of status.OutOfMemory = 9
exit_status_of status.NotHex = 11
exit_status_of status.Rejected = 12
exit_status_of status.NotCallable = 13
exit_status_of status.BadValue = 14
exit_status_of status.OverLimit = 15
exit_status_of status.NotChained = 16

-- the line of an end that is told alike for every input; nothing for the others
abbrev pub line_of : Status → List ℕ
line_of status.Done = []
line_of status.Usage = codes "usage: factc [--debug] [--fuel N] [--imports] [--generate N] [--check] [--call NAME] [--chain]\n"
line_of status.ReadFault = codes "read fault\n"
line_of status.WriteFault = codes "write fault\n"
line_of status.TooLong = codes "input too long\n"
line_of status.NotJson = codes "not json\n"
line_of status.BadPlan = []
line_of status.Refused = []
line_of status.NotHex = codes "not hex\n"
line_of status.Rejected = []
line_of status.NotCallable = codes "not callable\n"
line_of status.NotChained = codes "not chained\n"
line_of status.BadValue = []
line_of status.OverLimit = codes "over limit\n"
line_of status.OutOfMemory = codes "out of memory\n"
