-- The worked lines, first of all: a definition that is off shows as a line that is false before any law is tried.
use Rattle.line_format.specs.Worked.{Worked}
use Rattle.line_format.proofs.WorkedLines.{worked}

pub worked_lines : Worked
worked_lines = worked
