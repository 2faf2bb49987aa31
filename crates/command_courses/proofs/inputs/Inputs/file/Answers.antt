use Rattle.command_courses.specs.Inputs.{bytes_of}
use Rattle.command_courses.proofs.InputFacts.{file_short}
use Rattle.command_courses.proofs.inputs.Inputs.file.Goals as goal

pub returns-clause-short : goal.returns-clause-short
returns-clause-short c = rw c.file_at.ensures (file_short (bytes_of c.args.self.files.now) c.args.index c.args.self.short)
