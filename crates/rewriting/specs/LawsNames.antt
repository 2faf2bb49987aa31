-- The laws of a literal for a name: where the name is used, the literal has its kind, its value and the places that it
-- reads; then expressions and contracts mean among the other names what they mean among all.
use Rattle.std.specs.Prelude.{ℕ, ℤ, ◌≡◌, Bool, true, List, slice_get}
use Rattle.term_model.specs.Declarations.{Declarations}
use Rattle.term_model.specs.declared.values.Kind.{Kind}
use Rattle.term_model.specs.Terms.{Expression, Contract}
use Rattle.term_model.specs.Environments.{Environment, Place}
use Rattle.term_model.specs.Kinds.{kind_of}
use Rattle.term_model.specs.Values.{Entry, kinds, value_of, value_of_entry}
use Rattle.term_model.specs.Flows.{Flow, flow_of}
use Rattle.term_model.specs.Reads.{reads_of, reads_of_contract, places_or}
use Rattle.term_model.specs.Redexes.{uses, uses_in_contract}
use Rattle.rewriting.specs.Substituting.{substituted, substituted_in, without}

-- x has the kind of the name at j, its value, and the places that it reads
abbrev pub HasKindOf : Declarations → Expression → List Kind → ℕ → Type 0
HasKindOf d x ks j = (hs : List Kind) → kind_of d x hs ≡ slice_get ks j

abbrev pub HasValueOf : Declarations → Expression → List Entry → ℕ → Type 0
HasValueOf d x g j = (h : List Entry) (env : Environment) (f : ℤ) → value_of d x h env f ≡ value_of_entry (slice_get g j)

abbrev pub HasReadsOf : Declarations → Expression → List (List Place) → ℕ → Type 0
HasReadsOf d x bs j =
    (h : List Entry) (cs : List (List Place)) (env : Environment) (f : ℤ) → reads_of d x h cs env f ≡ places_or (slice_get bs j)

-- a claim, where x has the kind and the value of the name at j if that is used
abbrev pub IfStandsFor : Declarations → Expression → List Entry → ℕ → Bool → Type 0 → Type 0
IfStandsFor d x g j used P = (used ≡ true → HasKindOf d x (kinds g) j) → (used ≡ true → HasValueOf d x g j) → P

abbrev pub KindsWithoutName : Type 0
KindsWithoutName =
    (d : Declarations) (e : Expression) (j : ℕ) (x : Expression) (ks : List Kind)
    → (uses j e ≡ true → HasKindOf d x ks j)
    → kind_of d (substituted j x e) (without j ks) ≡ kind_of d e ks

abbrev pub ValuesWithoutName : Type 0
ValuesWithoutName =
    (d : Declarations) (e : Expression) (j : ℕ) (x : Expression) (g : List Entry) (env : Environment) (f : ℤ)
    → IfStandsFor d x g j (uses j e) (value_of d (substituted j x e) (without j g) env f ≡ value_of d e g env f)

abbrev pub ReadsWithoutName : Type 0
ReadsWithoutName =
    (d : Declarations) (e : Expression) (j : ℕ) (x : Expression) (g : List Entry) (bs : List (List Place)) (env : Environment) (f : ℤ)
    → IfStandsFor d x g j (uses j e) (
    (uses j e ≡ true → HasReadsOf d x bs j)
    → reads_of d (substituted j x e) (without j g) (without j bs) env f ≡ reads_of d e g bs env f)

abbrev pub FlowsWithoutName : Type 0
FlowsWithoutName =
    (d : Declarations) (c : Contract) (j : ℕ) (x : Expression) (g : List Entry) (env : Environment) (f n : ℤ) (w : Flow)
    → IfStandsFor d x g j (uses_in_contract j c) (
    flow_of d (substituted_in j x c) (without j g) env f n w ≡ flow_of d c g env f n w)

abbrev pub ContractReadsWithoutName : Type 0
ContractReadsWithoutName =
    (d : Declarations) (c : Contract) (j : ℕ) (x : Expression) (g : List Entry) (bs : List (List Place)) (env : Environment) (f a b : ℤ)
    → IfStandsFor d x g j (uses_in_contract j c) (
    (uses_in_contract j c ≡ true → HasReadsOf d x bs j)
    → reads_of_contract d (substituted_in j x c) (without j g) (without j bs) env f a b ≡ reads_of_contract d c g bs env f a b)
