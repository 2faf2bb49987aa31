use Rattle.std.proofs.Common.{rules}
use Rattle.contract_parse.proofs.AsciiFacts.{ascii_text}
use Rattle.contract_parse.proofs.cursor.first_bad_byte.Goals as goal

pub returns-then-greatest_byte-lt128-clause-good : goal.returns-then-greatest_byte-lt128-clause-good
returns-then-greatest_byte-lt128-clause-good c =
    ascii_text c.args.bytes.now c.greatest_byte.result c.greatest_byte.ensures (search rules)
