-- One turn of the simplifier over an expression: its parts are turned, and then the whole, if it is a redex that asks for
-- no frame. Where nothing is a redex nothing changes, and else the size falls. So turns end, and where they end no redex
-- is left.
use Rattle.rewriting.specs.Measures.{size}
use Rattle.std.specs.Prelude.{ℤ, pos, Some, ◌<◌, ◌≡◌, ◌⊎◌, ◌||◌, ◌==◌, Bool, false, max, List, [], ◌∷◌, if◌then◌else◌}
use Rattle.term_model.specs.Declarations.{Declarations}
use Rattle.term_model.specs.declared.values.Kind.{Kind}
use Rattle.term_model.specs.Terms.{Expression, Lit, Yes, Var, Obs, Neg, Num, Cmp, Not, Logic, Cond, Widen, Round, Div, Acc}
use Rattle.term_model.specs.Kinds.{kind_of, scale_of}
use Rattle.term_model.specs.Environments.{Environment, IsAdmitted}
use Rattle.term_model.specs.LawsKinds.{AreOfKinds}
use Rattle.term_model.specs.Values.{Entry, kinds, kind_or, value_of}
use Rattle.term_model.specs.Reads.{decides}
use Rattle.term_model.specs.Redexes.{is_literal, has_literal_operands}
use Rattle.rewriting.specs.Replacing.{literal_of, branch_at}

-- a choice that is decided, or an accumulator of no days
abbrev pub is_chosen : Expression → Bool
is_chosen (Cond t a b) = is_literal t
is_chosen (Acc body n first) = n == 0
is_chosen _ = false

-- a redex that asks for no frame
abbrev pub is_plain_redex : Expression → Bool
is_plain_redex e = has_literal_operands e || is_chosen e

-- what an operator on literals comes to
abbrev pub resolved : Declarations → List Kind → Expression → Expression
resolved d ks (Logic op (Yes v) b) = if decides op v then Yes v else b
resolved d ks (Logic op a b) = b
resolved d ks e = literal_of (kind_or (kind_of d e ks)) (value_of d e [] [] (pos 0))

-- what a choice comes to
abbrev pub choice : Declarations → List Kind → Expression → Expression
choice d ks (Cond (Yes v) a b) =
    let i = scale_of d a ks in
    let j = scale_of d b ks in
    if v then branch_at i (max i j) a else branch_at j (max i j) b
choice d ks (Cond t a b) = b
choice d ks (Acc body n first) = first
choice d ks e = e

abbrev pub rule : Declarations → List Kind → Expression → Expression
rule d ks e = if has_literal_operands e then resolved d ks e else (if is_chosen e then choice d ks e else e)

abbrev pub turned : Declarations → List Kind → Expression → Expression
turned d ks (Lit m s) = Lit m s
turned d ks (Yes b) = Yes b
turned d ks (Var back) = Var back
turned d ks (Obs l t) = Obs l t
turned d ks (Neg e) = rule d ks (Neg (turned d ks e))
turned d ks (Num op a b) = rule d ks (Num op (turned d ks a) (turned d ks b))
turned d ks (Cmp op a b) = rule d ks (Cmp op (turned d ks a) (turned d ks b))
turned d ks (Not e) = rule d ks (Not (turned d ks e))
turned d ks (Logic op a b) = rule d ks (Logic op (turned d ks a) (turned d ks b))
turned d ks (Cond t a b) = rule d ks (Cond (turned d ks t) (turned d ks a) (turned d ks b))
turned d ks (Widen s e) = rule d ks (Widen s (turned d ks e))
turned d ks (Round mode s e) = rule d ks (Round mode s (turned d ks e))
turned d ks (Div mode s a b) = rule d ks (Div mode s (turned d ks a) (turned d ks b))
turned d ks (Acc body n first) = rule d ks (Acc (turned d (kind_or (kind_of d first ks) ∷ ks) body) n (turned d ks first))

-- no node is a redex that asks for no frame
abbrev pub HasNoPlain : Expression → Type 0
HasNoPlain (Neg e) = HasNoPlain e × (is_plain_redex (Neg e) ≡ false)
HasNoPlain (Num op a b) = HasNoPlain a × HasNoPlain b × (is_plain_redex (Num op a b) ≡ false)
HasNoPlain (Cmp op a b) = HasNoPlain a × HasNoPlain b × (is_plain_redex (Cmp op a b) ≡ false)
HasNoPlain (Not e) = HasNoPlain e × (is_plain_redex (Not e) ≡ false)
HasNoPlain (Logic op a b) = HasNoPlain a × HasNoPlain b × (is_plain_redex (Logic op a b) ≡ false)
HasNoPlain (Cond t a b) = HasNoPlain t × HasNoPlain a × HasNoPlain b × (is_plain_redex (Cond t a b) ≡ false)
HasNoPlain (Widen s e) = HasNoPlain e × (is_plain_redex (Widen s e) ≡ false)
HasNoPlain (Round mode s e) = HasNoPlain e × (is_plain_redex (Round mode s e) ≡ false)
HasNoPlain (Div mode s a b) = HasNoPlain a × HasNoPlain b × (is_plain_redex (Div mode s a b) ≡ false)
HasNoPlain (Acc body n first) = HasNoPlain body × HasNoPlain first × (is_plain_redex (Acc body n first) ≡ false)
HasNoPlain e = Unit {0}

-- a turn leaves an expression that has none as it is, and makes every other one smaller
abbrev pub IsTurn : Expression → Expression → Type 0
IsTurn y e = ((y ≡ e) × HasNoPlain e) ⊎ (size y < size e)

abbrev pub TurnsEnd : Type 0
TurnsEnd = (d : Declarations) (e : Expression) (ks : List Kind) → IsTurn (turned d ks e) e

-- a turn keeps the kind and the value of an expression that has a kind, among names with values of their kinds
abbrev pub TurnsKeepValues : Type 0
TurnsKeepValues =
    (d : Declarations) (e : Expression) (g : List Entry) (env : Environment) (f : ℤ) (k : Kind)
    → IsAdmitted d env → AreOfKinds g → kind_of d e (kinds g) ≡ Some k
    → (kind_of d (turned d (kinds g) e) (kinds g) ≡ Some k) × (value_of d (turned d (kinds g) e) g env f ≡ value_of d e g env f)
