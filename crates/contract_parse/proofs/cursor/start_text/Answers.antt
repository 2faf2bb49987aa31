use Rattle.std.proofs.Common.{refl}
use Rattle.std.proofs.lemmas.Str.{IsCharBoundary-start}
use Rattle.contract_parse.proofs.cursor.start_text.Goals as goal

pub returns-in-None-clause-fits : goal.returns-in-None-clause-fits
returns-in-None-clause-fits c = record { utf8 = c.in-None.ensures.good; boundary = IsCharBoundary-start c.args.bytes.now c.in-None.ensures.good; position = refl }
