-- The places that payoff code reads, in order: of a `loop` its test up to the first day on which it is true, and then the
-- branch that is entered; of a `scale` its body and then its factor, where a payment of the pair and the asset that are
-- asked for is reached and not cut. A name has the reads of its expression, where it is bound.
use Rattle.std.specs.Prelude.{ℕ, ℤ, pos, negsuc, int_lt, ◌+ℤ◌, ◌==◌, ◌&&◌, ◌||◌, not, Bool, false, List, [], ◌∷◌, ◌++◌, Option, Some, None, if◌then◌else◌}
use Rattle.term_model.specs.Declarations.{Declarations}
use Rattle.term_model.specs.Environments.{Environment, Place}
use Rattle.term_model.specs.Values.{Entry}
use Rattle.term_model.specs.Flows.{Flow}
use Rattle.term_model.specs.Reads.{reads_of, upto}
use Rattle.payoff_terms.specs.TemplateDates.{day_of}
use Rattle.payoff_terms.specs.Dating.{at_setting}
use Rattle.payoff_terms.specs.CodeValues.{Asked, entry_at, first_true_at}
use Rattle.payoff_terms.specs.Code.{ValueExpression, PayoffCode, Nothing, PayOn, Add, ScaleBy, LetBe, Loop, Cut}

-- the reads of a value expression at a base
abbrev pub value_reads : Declarations → ValueExpression → List Entry → List (List Place) → Environment → List ℕ → ℤ → List Place
value_reads d v g bs env xs b = reads_of d (at_setting xs v) g bs env b

-- a payment of this pair, either way, and this asset
abbrev pub concerns : ℕ → ℕ → ℕ → Flow → Bool
concerns u p q w = (u == w.asset) && not (p == q) && (((p == w.from) && (q == w.to)) || ((p == w.to) && (q == w.from)))

-- such a payment is reached and not cut
abbrev pub reaches_payment : Declarations → PayoffCode → List Entry → Environment → List ℕ → Asked → ℤ → Bool
reaches_payment d Nothing g env xs a b = false
reaches_payment d (PayOn x u p q) g env xs a b = concerns u p q a.flow
reaches_payment d (Add k l) g env xs a b = reaches_payment d k g env xs a b || reaches_payment d l g env xs a b
reaches_payment d (ScaleBy v k) g env xs a b = reaches_payment d k g env xs a b
reaches_payment d (LetBe v k) g env xs a b = reaches_payment d k (entry_at d v g env xs b ∷ g) env xs a b
reaches_payment d (Loop v x k l) g env xs a b =
    elim (first_true_at d v g env xs b (day_of xs x)) [
      | Some n ↦ reaches_payment d k g env xs a (b +ℤ pos n)
      | None ↦ reaches_payment d l g env xs a b
    ]
reaches_payment d (Cut x k) g env xs a b =
    if int_lt (b +ℤ day_of xs x) a.now then false else reaches_payment d k g env xs a b

-- the lists of the days up to the first, or up to n where there is none
abbrev pub upto_first : Option ℕ → ℤ → (ℕ → List Place) → List Place
upto_first (Some k) n f = upto k f
upto_first None (pos n) f = upto n f
upto_first None (negsuc n) f = []

abbrev pub reads_of_code : Declarations → PayoffCode → List Entry → List (List Place) → Environment → List ℕ → Asked → ℤ → List Place
reads_of_code d Nothing g bs env xs a b = []
reads_of_code d (PayOn x u p q) g bs env xs a b = []
reads_of_code d (Add k l) g bs env xs a b = reads_of_code d k g bs env xs a b ++ reads_of_code d l g bs env xs a b
reads_of_code d (ScaleBy v k) g bs env xs a b =
    reads_of_code d k g bs env xs a b ++ (if reaches_payment d k g env xs a b then value_reads d v g bs env xs b else [])
reads_of_code d (LetBe v k) g bs env xs a b =
    reads_of_code d k (entry_at d v g env xs b ∷ g) (value_reads d v g bs env xs b ∷ bs) env xs a b
reads_of_code d (Loop v x k l) g bs env xs a b =
    upto_first (first_true_at d v g env xs b (day_of xs x)) (day_of xs x) (λ i. value_reads d v g bs env xs (b +ℤ pos i))
    ++ (elim (first_true_at d v g env xs b (day_of xs x)) [
      | Some n ↦ reads_of_code d k g bs env xs a (b +ℤ pos n)
      | None ↦ reads_of_code d l g bs env xs a b
    ])
reads_of_code d (Cut x k) g bs env xs a b =
    if int_lt (b +ℤ day_of xs x) a.now then [] else reads_of_code d k g bs env xs a b
