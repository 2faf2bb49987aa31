-- Parts that follow each other.
use Rattle.std.proofs.Common.{List}
use Rattle.contract_grammar.specs.Tokens.{Tok}
use Rattle.contract_grammar.specs.Spelling.{Part, Then, ◌⨟◌}

pub followed_by : {first next : Part} {ts rest : List Tok} (between : List Tok) → first ts between → next between rest → Then first next ts rest
followed_by between one two = record { between = between; one = one; two = two }

-- a part of two, of three, of four and of five, and then the next
pub two_then : {a b c : Part} {ts rest : List Tok} (between : List Tok) → (a ⨟ b) ts between → c between rest → (a ⨟ b ⨟ c) ts rest
two_then between ab next = followed_by ab.between ab.one (followed_by between ab.two next)

pub three_then : {a b c d : Part} {ts rest : List Tok} (between : List Tok) → (a ⨟ b ⨟ c) ts between → d between rest → (a ⨟ b ⨟ c ⨟ d) ts rest
three_then between abc next = followed_by abc.between abc.one (two_then between abc.two next)

pub four_then : {a b c d e : Part} {ts rest : List Tok} (between : List Tok) → (a ⨟ b ⨟ c ⨟ d) ts between → e between rest → (a ⨟ b ⨟ c ⨟ d ⨟ e) ts rest
four_then between abcd next = followed_by abcd.between abcd.one (three_then between abcd.two next)

pub five_then : {a b c d e f : Part} {ts rest : List Tok} (between : List Tok) → (a ⨟ b ⨟ c ⨟ d ⨟ e) ts between → f between rest → (a ⨟ b ⨟ c ⨟ d ⨟ e ⨟ f) ts rest
five_then between abcde next = followed_by abcde.between abcde.one (four_then between abcde.two next)
