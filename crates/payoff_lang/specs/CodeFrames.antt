-- Amounts of payoff code and their values where they stand.
use Rattle.std.specs.Prelude.{◌+◌, List}
use Rattle.contract_grammar.specs.Names.{DeclaredNames}
use Rattle.contract_grammar.specs.Spelling.{Part}
use Rattle.contract_parse.specs.Frames.{names_at}
use Rattle.contract_parse.specs.Expecting.{AmountAt, Expected}
use Rattle.contract_parse.specs.declared.frame.Frame.{Frame}
use Rattle.contract_parse.specs.declared.heads.AmountHead.{AmountHead}
use Rattle.payoff_terms.specs.declared.code.Code.{Code}
use Rattle.payoff_terms.specs.declared.code.Vx.{Vx}
use Rattle.payoff_lang.specs.CodeReading.{behind_amount_head, code_in, value_in}

-- that an amount is expected in a frame, one deeper than the constructs that are open
abbrev pub an_amount_here : Frame → Expected
an_amount_here frame = AmountAt (frame.depth + 1) (names_at frame)

-- the grammar's parts of the program's values there
abbrev pub value_at : Frame → Vx → Part
value_at frame v = value_in frame.decls.now frame.bound.now v

abbrev pub code_at : Frame → Code → Part
code_at frame k = code_in frame.decls.now frame.bound.now k

-- what stands behind the first token of the innermost amount that is open
abbrev pub expected_behind_amount : Frame → AmountHead → DeclaredNames → List Expected → List Expected
expected_behind_amount frame head = behind_amount_head frame.depth frame.bound.now head
