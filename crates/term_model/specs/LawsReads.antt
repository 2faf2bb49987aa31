-- Laws of reads that follow from the definitions alone: up to the first place that is not fixed, the same places are
-- read whatever the others will be; where all are fixed, the amounts are known; what is not read has no influence; and
-- over more days a contract reads no less.
use Rattle.std.specs.Prelude.{ℕ, ℤ, pos, ◌≤◌, ◌≤ℤ◌, ◌≡◌, true, List, [], None, All, slice_get}
use Rattle.std.specs.List.{list_all}
use Rattle.term_model.specs.Declarations.{Declarations}
use Rattle.term_model.specs.Terms.{Expression, Contract}
use Rattle.term_model.specs.Environments.{Environment, Place, Extends, observed}
use Rattle.term_model.specs.Values.{Entry, kinds, value_of_entry, value_of}
use Rattle.term_model.specs.Flows.{Flow, amount_of}
use Rattle.term_model.specs.Reads.{places_or, reads_of, reads_of_contract, is_fixed, first_unfixed, up_to_first}
use Rattle.term_model.specs.Sublists.{IsSublist}

-- two lists of places are one, up to and with the first place that the fixings do not hold
abbrev pub AgreeUpToUnfixed : Environment → List Place → List Place → Type 0
AgreeUpToUnfixed fixings ps qs = up_to_first (is_fixed fixings) ps ≡ up_to_first (is_fixed fixings) qs

-- up to and with the first place that the fixings do not hold, a contract reads in every environment that extends them
-- the places that it reads in the fixings alone
abbrev pub ReadsStayUpToUnfixed : Type 0
ReadsStayUpToUnfixed =
    (d : Declarations) (c : Contract) (fixings env : Environment) (f a b : ℤ) → Extends fixings env
    → AgreeUpToUnfixed fixings (reads_of_contract d c [] [] env f a b) (reads_of_contract d c [] [] fixings f a b)

-- where no place that is read up to day b is unfixed, the amounts up to it are those of the fixings alone
abbrev pub AmountsAreFixed : Type 0
AmountsAreFixed =
    (d : Declarations) (c : Contract) (fixings env : Environment) (f : ℤ) (b : ℕ) → Extends fixings env
    → first_unfixed fixings (reads_of_contract d c [] [] fixings f (pos 0) (pos b)) ≡ None
    → (n : ℕ) → n ≤ b → (w : Flow) → amount_of d c env f (pos n) w ≡ amount_of d c fixings f (pos n) w

-- two environments read equally at each of some places
abbrev pub AgreeAt : Declarations → Environment → Environment → List Place → Type 0
AgreeAt d one other places = All (λ q. observed d one q.label q.day ≡ observed d other q.label q.day) places

-- a place that an expression does not read has no influence on its value
abbrev pub ValuesDependOnReads : Type 0
ValuesDependOnReads =
    (d : Declarations) (e : Expression) (g : List Entry) (one other : Environment) (f : ℤ)
    → AgreeAt d one other (reads_of d e g [] one f) → value_of d e g one f ≡ value_of d e g other f

-- a place that a contract does not read up to day b has no influence on the amounts up to it
abbrev pub AmountsDependOnReads : Type 0
AmountsDependOnReads =
    (d : Declarations) (c : Contract) (one other : Environment) (f : ℤ) (b : ℕ)
    → AgreeAt d one other (reads_of_contract d c [] [] one f (pos 0) (pos b))
    → (n : ℕ) → n ≤ b → (w : Flow) → amount_of d c one f (pos n) w ≡ amount_of d c other f (pos n) w

-- the same names in two worlds: of one kind in both, with the same reads up to the first that is not fixed, and with one
-- value where all are fixed
pub record StandAlike (fixings : Environment)
    (g : List Entry) (bs : List (List Place)) (h : List Entry) (cs : List (List Place)) : Type 0 where
  pub same_kinds : kinds g ≡ kinds h
  pub same_reads : (k : ℕ) → AgreeUpToUnfixed fixings (places_or (slice_get bs k)) (places_or (slice_get cs k))
  pub same_values : (k : ℕ)
      → list_all (is_fixed fixings) (places_or (slice_get bs k)) ≡ true
      → value_of_entry (slice_get g k) ≡ value_of_entry (slice_get h k)

-- up to and with the first place that the fixings do not hold, an expression reads in every environment that extends
-- them the places that it reads in the fixings alone
abbrev pub ExpressionReadsStay : Type 0
ExpressionReadsStay =
    (d : Declarations) (e : Expression) (fixings env : Environment)
    (g : List Entry) (bs : List (List Place)) (h : List Entry) (cs : List (List Place)) (f : ℤ)
    → Extends fixings env → StandAlike fixings g bs h cs
    → AgreeUpToUnfixed fixings (reads_of d e g bs env f) (reads_of d e h cs fixings f)

-- and where it reads no place that is not fixed, it has there the value that it has in the fixings alone
abbrev pub ValuesAreFixed : Type 0
ValuesAreFixed =
    (d : Declarations) (e : Expression) (fixings env : Environment)
    (g : List Entry) (bs : List (List Place)) (h : List Entry) (cs : List (List Place)) (f : ℤ)
    → Extends fixings env → StandAlike fixings g bs h cs
    → first_unfixed fixings (reads_of d e g bs env f) ≡ None → value_of d e g env f ≡ value_of d e h fixings f

-- over more own days, from s to t in place of a to b, a contract reads all that it reads and in the same order, and
-- maybe more between
abbrev pub ReadsGrow : Type 0
ReadsGrow =
    (d : Declarations) (c : Contract) (g : List Entry) (bs : List (List Place)) (env : Environment) (f a b s t : ℤ)
    → s ≤ℤ a → b ≤ℤ t → IsSublist (reads_of_contract d c g bs env f a b) (reads_of_contract d c g bs env f s t)
