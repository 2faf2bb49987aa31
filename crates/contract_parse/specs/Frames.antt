-- Parts of terms where they stand: what the readers in a frame read.
use Rattle.std.specs.Prelude.{◌+◌, List}
use Rattle.term_model.specs.declared.terms.Contr.{Contr}
use Rattle.term_model.specs.declared.terms.Expr.{Expr}
use Rattle.contract_grammar.specs.Words.{Bytes}
use Rattle.contract_grammar.specs.Versions.{version_of}
use Rattle.contract_grammar.specs.Names.{DeclaredNames, names_in}
use Rattle.contract_grammar.specs.Spelling.{Leaf, Part}
use Rattle.contract_parse.specs.Expecting.{ContrAt, ExprAt, Expected}
use Rattle.contract_parse.specs.Readers.{Going, Passes, behind_first, behind_head, contract_in, expression_in}
use Rattle.contract_parse.specs.declared.frame.Frame.{Frame}
use Rattle.contract_parse.specs.declared.heads.First.{First}
use Rattle.contract_parse.specs.declared.heads.Head.{Head}
use Rattle.contract_grammar.specs.declared.terms.Language.{Language}

-- the names that are bound there, innermost first
abbrev pub names_at : Frame → List Bytes
names_at frame = names_in frame.bound.now

-- that an expression is expected there, one deeper than the constructs that are open
abbrev pub an_expression_here : Language → Frame → Expected
an_expression_here l frame = ExprAt l (frame.depth + 1) (names_at frame)

-- that a contract is expected there
abbrev pub a_contract_here : Frame → Expected
a_contract_here frame = ContrAt (version_of frame.decls.now.version) (frame.depth + 1) (names_at frame)

-- the grammar's parts of the program's values there
abbrev pub expression_at : (DeclaredNames → Leaf) → Frame → Expr → Part
expression_at leaf frame e = expression_in leaf frame.decls.now frame.bound.now e

abbrev pub contract_at : Frame → Contr → Part
contract_at frame c = contract_in frame.decls.now frame.bound.now c

-- what stands behind the first token of the innermost construct that is open
abbrev pub expected_behind_first : Language → Frame → First → DeclaredNames → List Expected → List Expected
expected_behind_first l frame first = behind_first l frame.depth frame.bound.now first

abbrev pub expected_behind_head : Frame → Head → DeclaredNames → List Expected → List Expected
expected_behind_head frame head = behind_head frame.depth frame.bound.now head

-- a reader passes what is expected there
abbrev pub PassesAt : {X : Type 0} → Frame → (DeclaredNames → List Expected → List Expected) → Going X
PassesAt frame expected = Passes frame.decls.now expected
