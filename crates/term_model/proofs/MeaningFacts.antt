-- What a term means follows from the decimals of the amounts and from the observables.
use Rattle.std.proofs.Common.{◌≡◌, ℕ, zero, suc, ℤ, pos, ◌+ℤ◌, ◌-ℤ◌, ◌*ℤ◌, neg_ℤ, ◌+◌, ◌-◌, ◌||◌, ◌&&◌, max, not, Bool, if◌then◌else◌, int_lt, List, [], ◌∷◌, ◌++◌, Option, Some, None, refl, ap, ap₂, ◌∙◌, slice_get}
use Rattle.std.specs.Prelude.{option_map}
use Rattle.std.specs.List.{list_all}
use Rattle.decimal.specs.Rounding.{raised, at_scale, divided}
use Rattle.term_model.specs.declared.name.Name.{Name}
use Rattle.term_model.specs.declared.label.Label.{Label}
use Rattle.term_model.specs.declared.values.Kind.{Kind}
use Rattle.term_model.specs.declared.values.Kind.TheVariants.{Truth as TruthKind, Number}
use Rattle.term_model.specs.declared.values.Value.{Value}
use Rattle.term_model.specs.declared.values.Value.TheVariants.{Num as Amount, Truth}
use Rattle.term_model.specs.Declarations.{Declarations, decimals_of}
use Rattle.term_model.specs.Terms.{Expression, Lit, Yes, Var, Obs, Neg, Num, Cmp, Not, Logic, Cond, Widen, Round, Div, Acc}
use Rattle.term_model.specs.Terms.{Contract, Zero, Pay, Both, Scale, After, Let, Within}
use Rattle.term_model.specs.Environments.{Environment, Place, label_of, held, least, value_or}
use Rattle.term_model.specs.Kinds.{kind_of, kind_of_label, on_number, on_numbers, on_truth, joined, scale_of, scale_of_op, scale_of_kind, scale_or_zero}
use Rattle.term_model.specs.Values.{Entry, kinds, num, truth, of_num, of_cmp, logic_op, widened, days_run, kind_or, value_of, entry_of, first_of, first_true}
use Rattle.term_model.specs.Flows.{Flow, flow_of, amount_of, count_of, scale_of_contract}
use Rattle.term_model.specs.AssetScales.{greater, scale_in_asset, assets_in, fits_asset, assets_are_scaled}
use Rattle.term_model.specs.Reads.{reads_of, reads_of_contract, live, steps_before, upto, tested, decides}
use Rattle.term_model.specs.LawsDeclarations.{MeanTheSame, DeclarationsGiveMeaning}
use Rattle.term_model.proofs.ShiftFacts.{same_acc, same_days, of_two}
use Rattle.term_model.proofs.ReadShiftFacts.{same_steps, appended, chosen}

abbrev label_in : List (Name × Label) → ℕ → Option Label
label_in ls l = elim (slice_get ls l) [ Some e ↦ Some e.1 | None ↦ None ]

pub label_same : (d o : Declarations) → MeanTheSame d o → (l : ℕ) → label_of d l ≡ label_of o l
label_same d o s l = ap (λ (ls : List (Name × Label)). label_in ls l) s.labels

pub four : {A B : Type 0} (F : ℕ → A → ℕ → A → B) (i i' j j' : ℕ) (v v' w w' : A) → i ≡ i' → v ≡ v' → j ≡ j' → w ≡ w' → F i v j w ≡ F i' v' j' w'
four {A} F i i' j j' v v' w w' a b c e = ap₂ (λ (x : ℕ) (y : A). F x y j w) a b ∙ ap₂ (λ (x : ℕ) (y : A). F i' v' x y) c e

pub kind_same : (d o : Declarations) → MeanTheSame d o → (e : Expression) (ks : List Kind) → kind_of d e ks ≡ kind_of o e ks
kind_same d o s (Lit m t) ks = refl
kind_same d o s (Yes b) ks = refl
kind_same d o s (Var back) ks = refl
kind_same d o s (Obs l t) ks = ap kind_of_label (label_same d o s l)
kind_same d o s (Neg e) ks = ap (on_number (λ i. Some (Number i))) (kind_same d o s e ks)
kind_same d o s (Num op a b) ks = ap₂ (on_numbers (λ i j. Some (Number (scale_of_op op i j)))) (kind_same d o s a ks) (kind_same d o s b ks)
kind_same d o s (Cmp op a b) ks = ap₂ (on_numbers (λ i j. Some TruthKind)) (kind_same d o s a ks) (kind_same d o s b ks)
kind_same d o s (Not e) ks = ap (λ (u : Option Kind). on_truth u (Some TruthKind)) (kind_same d o s e ks)
kind_same d o s (Logic op a b) ks = ap₂ (λ (u v : Option Kind). on_truth u (on_truth v (Some TruthKind))) (kind_same d o s a ks) (kind_same d o s b ks)
kind_same d o s (Cond t a b) ks = ap₂ on_truth (kind_same d o s t ks) (ap₂ joined (kind_same d o s a ks) (kind_same d o s b ks))
kind_same d o s (Widen i e) ks = ap (on_number (λ _. Some (Number i))) (kind_same d o s e ks)
kind_same d o s (Round mode i e) ks = ap (on_number (λ _. Some (Number i))) (kind_same d o s e ks)
kind_same d o s (Div mode i a b) ks = ap₂ (on_numbers (λ _ _. Some (Number i))) (kind_same d o s a ks) (kind_same d o s b ks)
kind_same d o s (Acc body n first) ks =
    same_acc (kind_of d first ks) (kind_of o first ks) (λ k. kind_of d body (k ∷ ks)) (λ k. kind_of o body (k ∷ ks)) (kind_same d o s first ks) (λ k. kind_same d o s body (k ∷ ks))

pub scale_same : (d o : Declarations) → MeanTheSame d o → (e : Expression) (ks : List Kind) → scale_of d e ks ≡ scale_of o e ks
scale_same d o s e ks = ap scale_or_zero (kind_same d o s e ks)

pub value_same : (d o : Declarations) → MeanTheSame d o → (e : Expression) (g : List Entry) (env : Environment) (f : ℤ) → value_of d e g env f ≡ value_of o e g env f
value_same d o s (Lit m t) g env f = refl
value_same d o s (Yes b) g env f = refl
value_same d o s (Var back) g env f = refl
value_same d o s (Obs l t) g env f =
    let q : Place = record { label = l; day = f +ℤ t } in
    ap (λ (u : Option Label). value_or (held env q) (least u)) (label_same d o s l)
value_same d o s (Neg e) g env f = ap (λ (v : Value). Amount (neg_ℤ (num v))) (value_same d o s e g env f)
value_same d o s (Num op a b) g env f =
    of_two (λ i v j w. Amount (of_num op i (num v) j (num w))) _ _ _ _ _ _ _ _ (scale_same d o s a (kinds g)) (value_same d o s a g env f) (scale_same d o s b (kinds g)) (value_same d o s b g env f)
value_same d o s (Cmp op a b) g env f =
    of_two (λ i v j w. Truth (of_cmp op i (num v) j (num w))) _ _ _ _ _ _ _ _ (scale_same d o s a (kinds g)) (value_same d o s a g env f) (scale_same d o s b (kinds g)) (value_same d o s b g env f)
value_same d o s (Not e) g env f = ap (λ (v : Value). Truth (not (truth v))) (value_same d o s e g env f)
value_same d o s (Logic op a b) g env f =
    ap₂ (λ (v w : Value). Truth (logic_op op (truth v) (truth w))) (value_same d o s a g env f) (value_same d o s b g env f)
value_same d o s (Cond t a b) g env f =
    ap (λ (v : Value). if truth v then widened (scale_of d a (kinds g)) (max (scale_of d a (kinds g)) (scale_of d b (kinds g))) (value_of d a g env f) else widened (scale_of d b (kinds g)) (max (scale_of d a (kinds g)) (scale_of d b (kinds g))) (value_of d b g env f)) (value_same d o s t g env f)
    ∙ of_two (λ i v j w. if truth (value_of o t g env f) then widened i (max i j) v else widened j (max i j) w) _ _ _ _ _ _ _ _ (scale_same d o s a (kinds g)) (value_same d o s a g env f) (scale_same d o s b (kinds g)) (value_same d o s b g env f)
value_same d o s (Widen j e) g env f =
    ap₂ (λ (i : ℕ) (v : Value). widened i j v) (scale_same d o s e (kinds g)) (value_same d o s e g env f)
value_same d o s (Round mode j e) g env f =
    ap₂ (λ (i : ℕ) (v : Value). Amount (at_scale mode (num v) i j)) (scale_same d o s e (kinds g)) (value_same d o s e g env f)
value_same d o s (Div mode k a b) g env f =
    of_two (λ i v j w. Amount (divided mode (num v) i (num w) j k)) _ _ _ _ _ _ _ _ (scale_same d o s a (kinds g)) (value_same d o s a g env f) (scale_same d o s b (kinds g)) (value_same d o s b g env f)
value_same d o s (Acc body n first) g env f =
    let ks = kinds g in
    let run : Option Kind → Value = λ u. days_run n (λ i v. widened (scale_of d body (kind_or u ∷ ks)) (scale_of_kind (kind_or u)) (value_of d body (record { value = v; kind = kind_or u } ∷ g) env (f -ℤ pos n +ℤ pos i))) (value_of d first g env (f -ℤ pos n)) in
    ap run (kind_same d o s first ks)
    ∙ same_days n _ _ _ _ (value_same d o s first g env (f -ℤ pos n)) (λ i v.
    let kind = kind_or (kind_of o first ks) in
    let es : List Entry = record { value = v; kind = kind } ∷ g in
    ap₂ (λ (j : ℕ) (u : Value). widened j (scale_of_kind kind) u) (scale_same d o s body (kind ∷ ks)) (value_same d o s body es env (f -ℤ pos n +ℤ pos i)))

reads_same : (d o : Declarations) → MeanTheSame d o → (e : Expression) (g : List Entry) (bs : List (List Place)) (env : Environment) (f : ℤ) → reads_of d e g bs env f ≡ reads_of o e g bs env f
reads_same d o s (Lit m t) g bs env f = refl
reads_same d o s (Yes b) g bs env f = refl
reads_same d o s (Var back) g bs env f = refl
reads_same d o s (Obs l t) g bs env f = refl
reads_same d o s (Neg e) g bs env f = reads_same d o s e g bs env f
reads_same d o s (Num op a b) g bs env f = appended _ _ _ _ (reads_same d o s a g bs env f) (reads_same d o s b g bs env f)
reads_same d o s (Cmp op a b) g bs env f = appended _ _ _ _ (reads_same d o s a g bs env f) (reads_same d o s b g bs env f)
reads_same d o s (Not e) g bs env f = reads_same d o s e g bs env f
reads_same d o s (Logic op a b) g bs env f =
    appended _ _ _ _ (reads_same d o s a g bs env f) (chosen _ _ [] [] _ _ (ap (λ (v : Value). decides op (truth v)) (value_same d o s a g env f)) refl (reads_same d o s b g bs env f))
reads_same d o s (Cond t a b) g bs env f =
    appended _ _ _ _ (reads_same d o s t g bs env f) (chosen _ _ _ _ _ _ (ap truth (value_same d o s t g env f)) (reads_same d o s a g bs env f) (reads_same d o s b g bs env f))
reads_same d o s (Widen i e) g bs env f = reads_same d o s e g bs env f
reads_same d o s (Round mode i e) g bs env f = reads_same d o s e g bs env f
reads_same d o s (Div mode i a b) g bs env f = appended _ _ _ _ (reads_same d o s a g bs env f) (reads_same d o s b g bs env f)
reads_same d o s (Acc body n first) g bs env f =
    let ks = kinds g in
    let from = f -ℤ pos n in
    let before : Kind → ℕ → Value = λ kind i. days_run i (λ i v. widened (scale_of d body (kind ∷ ks)) (scale_of_kind kind) (value_of d body (record { value = v; kind = kind } ∷ g) env (from +ℤ pos i))) (value_of d first g env from) in
    let run : Option Kind → List Place = λ u. reads_of d first g bs env from ++ steps_before n (λ i. reads_of d body (record { value = before (kind_or u) i; kind = kind_or u } ∷ g) ([] ∷ bs) env (from +ℤ pos (suc i))) in
    ap run (kind_same d o s first ks)
    ∙ appended _ _ _ _ (reads_same d o s first g bs env from) (same_steps n _ _ (λ i.
    let kind = kind_or (kind_of o first ks) in
    reads_same d o s body (record { value = before kind i; kind = kind } ∷ g) ([] ∷ bs) env (from +ℤ pos (suc i))
    ∙ ap (λ (v : Value). let entry : Entry = record { value = v; kind = kind } in reads_of o body (entry ∷ g) ([] ∷ bs) env (from +ℤ pos (suc i)))
    (same_days i _ _ _ _ (value_same d o s first g env from) (λ i' v.
    let es : List Entry = record { value = v; kind = kind } ∷ g in
    ap₂ (λ (j : ℕ) (u : Value). widened j (scale_of_kind kind) u) (scale_same d o s body (kind ∷ ks)) (value_same d o s body es env (from +ℤ pos i'))))))

-- ---- contracts

pub contract_scale_same : (d o : Declarations) → MeanTheSame d o → (c : Contract) (ks : List Kind) → scale_of_contract d c ks ≡ scale_of_contract o c ks
contract_scale_same d o s Zero ks = refl
contract_scale_same d o s (Pay a p q) ks = refl
contract_scale_same d o s (Both a b) ks = ap₂ max (contract_scale_same d o s a ks) (contract_scale_same d o s b ks)
contract_scale_same d o s (Scale e c) ks = ap₂ (λ (i j : ℕ). i + j) (scale_same d o s e ks) (contract_scale_same d o s c ks)
contract_scale_same d o s (After n c) ks = contract_scale_same d o s c ks
contract_scale_same d o s (Let e c) ks =
    contract_scale_same d o s c (kind_or (kind_of d e ks) ∷ ks) ∙ ap (λ (u : Option Kind). scale_of_contract o c (kind_or u ∷ ks)) (kind_same d o s e ks)
contract_scale_same d o s (Within e n a b) ks = ap₂ max (contract_scale_same d o s a ks) (contract_scale_same d o s b ks)

asset_scale_same : (d o : Declarations) → MeanTheSame d o → (c : Contract) (ks : List Kind) (a : ℕ) → scale_in_asset d c ks a ≡ scale_in_asset o c ks a
asset_scale_same d o s Zero ks a = refl
asset_scale_same d o s (Pay b p q) ks a = refl
asset_scale_same d o s (Both x y) ks a = ap₂ greater (asset_scale_same d o s x ks a) (asset_scale_same d o s y ks a)
asset_scale_same d o s (Scale e c) ks a = ap₂ (λ (i : ℕ) (u : Option ℕ). option_map (λ t. i + t) u) (scale_same d o s e ks) (asset_scale_same d o s c ks a)
asset_scale_same d o s (After n c) ks a = asset_scale_same d o s c ks a
asset_scale_same d o s (Let e c) ks a =
    asset_scale_same d o s c (kind_or (kind_of d e ks) ∷ ks) a ∙ ap (λ (u : Option Kind). scale_in_asset o c (kind_or u ∷ ks) a) (kind_same d o s e ks)
asset_scale_same d o s (Within e n x y) ks a = ap₂ greater (asset_scale_same d o s x ks a) (asset_scale_same d o s y ks a)

same_list : (p q : ℕ → Bool) (xs : List ℕ) → ((a : ℕ) → p a ≡ q a) → list_all p xs ≡ list_all q xs
same_list p q [] h = refl
same_list p q (x ∷ xs) h = ap₂ (λ (b c : Bool). b && c) (h x) (same_list p q xs h)

pub assets_same : (d o : Declarations) → MeanTheSame d o → ((a : ℕ) → decimals_of d a ≡ decimals_of o a) → (c : Contract) (ks : List Kind) → assets_are_scaled d c ks ≡ assets_are_scaled o c ks
assets_same d o s t c ks =
    same_list (λ a. fits_asset (scale_in_asset d c ks a) (decimals_of d a)) (λ a. fits_asset (scale_in_asset o c ks a) (decimals_of o a)) (assets_in c)
    (λ a. ap₂ fits_asset (asset_scale_same d o s c ks a) (t a))

abbrev or_day : Option ℕ → ℕ → Bool → Option ℕ
or_day u n b = elim u [ Some i ↦ Some i | None ↦ if b then Some n else None ]

same_first : (n : ℕ) (p q : ℕ → Bool) → ((i : ℕ) → p i ≡ q i) → first_of n p ≡ first_of n q
same_first zero p q h = ap (λ (b : Bool). if b then Some zero else None) (h zero)
same_first (suc n) p q h = ap₂ (λ (u : Option ℕ) (b : Bool). or_day u (suc n) b) (same_first n p q h) (h (suc n))

first_same : (d o : Declarations) → MeanTheSame d o → (e : Expression) (g : List Entry) (env : Environment) (f : ℤ) (n : ℕ) → first_true d e g env f n ≡ first_true o e g env f n
first_same d o s e g env f n = same_first n _ _ (λ i. ap truth (value_same d o s e g env (f +ℤ pos i)))

entry_same : (d o : Declarations) → MeanTheSame d o → (e : Expression) (g : List Entry) (env : Environment) (f : ℤ) → entry_of d e g env f ≡ entry_of o e g env f
entry_same d o s e g env f =
    let entry : Value → Option Kind → Entry = λ v u. record { value = v; kind = kind_or u } in
    ap₂ entry (value_same d o s e g env f) (kind_same d o s e (kinds g))

abbrev branch : {A : Type 0} → Option ℕ → (ℕ → A) → A → A
branch u x y = elim u [ Some k ↦ x k | None ↦ y ]

same_branches : {A : Type 0} (u : Option ℕ) (x x' : ℕ → A) (y y' : A) → ((k : ℕ) → x k ≡ x' k) → y ≡ y' → branch u x y ≡ branch u x' y'
same_branches (Some k) x x' y y' h e = h k
same_branches None x x' y y' h e = e

same_branch : {A : Type 0} (u v : Option ℕ) (x x' : ℕ → A) (y y' : A) → u ≡ v → ((k : ℕ) → x k ≡ x' k) → y ≡ y' → branch u x y ≡ branch v x' y'
same_branch u v x x' y y' e h g = same_branches u x x' y y' h g ∙ ap (λ (w : Option ℕ). branch w x' y') e

raised_same : (x y : ℤ) (i i' j j' : ℕ) → x ≡ y → i ≡ i' → j ≡ j' → raised x (max i j - i) ≡ raised y (max i' j' - i')
raised_same x y i i' j j' e h k = ap₂ (λ (a b : ℕ). raised x (max a b - a)) h k ∙ ap (λ (z : ℤ). raised z (max i' j' - i')) e

raised_other : (x y : ℤ) (i i' j j' : ℕ) → x ≡ y → i ≡ i' → j ≡ j' → raised x (max i j - j) ≡ raised y (max i' j' - j')
raised_other x y i i' j j' e h k = ap₂ (λ (a b : ℕ). raised x (max a b - b)) h k ∙ ap (λ (z : ℤ). raised z (max i' j' - j')) e

flow_same : (d o : Declarations) → MeanTheSame d o → (c : Contract) (g : List Entry) (env : Environment) (f n : ℤ) (w : Flow) → flow_of d c g env f n w ≡ flow_of o c g env f n w
flow_same d o s Zero g env f n w = refl
flow_same d o s (Pay a p q) g env f n w = refl
flow_same d o s (Both a b) g env f n w =
    four (λ i x j y. raised x (max i j - i) +ℤ raised y (max i j - j)) _ _ _ _ _ _ _ _ (contract_scale_same d o s a (kinds g)) (flow_same d o s a g env f n w) (contract_scale_same d o s b (kinds g)) (flow_same d o s b g env f n w)
flow_same d o s (Scale e c) g env f n w = ap₂ (λ (v : Value) (x : ℤ). num v *ℤ x) (value_same d o s e g env f) (flow_same d o s c g env f n w)
flow_same d o s (After m c) g env f n w = flow_same d o s c g env (f +ℤ pos (count_of m)) (n -ℤ pos (count_of m)) w
flow_same d o s (Let e c) g env f n w =
    flow_same d o s c (entry_of d e g env f ∷ g) env f n w ∙ ap (λ (x : Entry). flow_of o c (x ∷ g) env f n w) (entry_same d o s e g env f)
flow_same d o s (Within e m a b) g env f n w =
    same_branch (first_true d e g env f (count_of m)) (first_true o e g env f (count_of m)) _ _ _ _ (first_same d o s e g env f (count_of m))
    (λ k. raised_same _ _ _ _ _ _ (flow_same d o s a g env (f +ℤ pos k) (n -ℤ pos k) w) (contract_scale_same d o s a (kinds g)) (contract_scale_same d o s b (kinds g)))
    (raised_other _ _ _ _ _ _ (flow_same d o s b g env (f +ℤ pos (count_of m)) (n -ℤ pos (count_of m)) w) (contract_scale_same d o s a (kinds g)) (contract_scale_same d o s b (kinds g)))

pub amount_same : (d o : Declarations) → MeanTheSame d o → (c : Contract) (env : Environment) (f n : ℤ) (w : Flow) → amount_of d c env f n w ≡ amount_of o c env f n w
amount_same d o s c env f n w = ap₂ raised (flow_same d o s c [] env f n w) (ap₂ (λ (i j : ℕ). i - j) s.amounts (contract_scale_same d o s c []))

live_same : (d o : Declarations) → MeanTheSame d o → (c : Contract) (g : List Entry) (env : Environment) (f a b : ℤ) → live d c g env f a b ≡ live o c g env f a b
live_same d o s Zero g env f a b = refl
live_same d o s (Pay x p q) g env f a b = refl
live_same d o s (Both x y) g env f a b = ap₂ (λ (t u : Bool). t || u) (live_same d o s x g env f a b) (live_same d o s y g env f a b)
live_same d o s (Scale e c) g env f a b = live_same d o s c g env f a b
live_same d o s (After m c) g env f a b = live_same d o s c g env (f +ℤ pos (count_of m)) (a -ℤ pos (count_of m)) (b -ℤ pos (count_of m))
live_same d o s (Let e c) g env f a b =
    live_same d o s c (entry_of d e g env f ∷ g) env f a b ∙ ap (λ (x : Entry). live o c (x ∷ g) env f a b) (entry_same d o s e g env f)
live_same d o s (Within e m x y) g env f a b =
    same_branch (first_true d e g env f (count_of m)) (first_true o e g env f (count_of m)) _ _ _ _ (first_same d o s e g env f (count_of m))
    (λ k. live_same d o s x g env (f +ℤ pos k) (a -ℤ pos k) (b -ℤ pos k))
    (live_same d o s y g env (f +ℤ pos (count_of m)) (a -ℤ pos (count_of m)) (b -ℤ pos (count_of m)))

pub contract_reads_same : (d o : Declarations) → MeanTheSame d o → (c : Contract) (g : List Entry) (bs : List (List Place)) (env : Environment) (f a b : ℤ) → reads_of_contract d c g bs env f a b ≡ reads_of_contract o c g bs env f a b
contract_reads_same d o s Zero g bs env f a b = refl
contract_reads_same d o s (Pay x p q) g bs env f a b = refl
contract_reads_same d o s (Both x y) g bs env f a b = appended _ _ _ _ (contract_reads_same d o s x g bs env f a b) (contract_reads_same d o s y g bs env f a b)
contract_reads_same d o s (Scale e c) g bs env f a b =
    appended _ _ _ _ (contract_reads_same d o s c g bs env f a b) (chosen _ _ _ _ [] [] (live_same d o s c g env f a b) (reads_same d o s e g bs env f) refl)
contract_reads_same d o s (After m c) g bs env f a b =
    contract_reads_same d o s c g bs env (f +ℤ pos (count_of m)) (a -ℤ pos (count_of m)) (b -ℤ pos (count_of m))
contract_reads_same d o s (Let e c) g bs env f a b =
    contract_reads_same d o s c (entry_of d e g env f ∷ g) (reads_of d e g bs env f ∷ bs) env f a b
    ∙ ap₂ (λ (x : Entry) (ps : List Place). reads_of_contract o c (x ∷ g) (ps ∷ bs) env f a b) (entry_same d o s e g env f) (reads_same d o s e g bs env f)
contract_reads_same d o s (Within e m x y) g bs env f a b =
    let n = count_of m in
    let test : Declarations → ℕ → List Place = λ r i. reads_of r e g bs env (f +ℤ pos i) in
    let first = first_same d o s e g env f n in
    chosen (int_lt b (pos 0)) (int_lt b (pos 0)) [] [] _ _ refl refl
    (appended _ _ _ _
    (ap (λ (u : Option ℕ). upto (tested u n b) (test d)) first ∙ same_steps (suc (tested (first_true o e g env f n) n b)) (test d) (test o) (λ i. reads_same d o s e g bs env (f +ℤ pos i)))
    (same_branch (first_true d e g env f n) (first_true o e g env f n) _ _ _ _ first
    (λ k. chosen (int_lt b (pos k)) (int_lt b (pos k)) [] [] _ _ refl refl (contract_reads_same d o s x g bs env (f +ℤ pos k) (a -ℤ pos k) (b -ℤ pos k)))
    (chosen (int_lt b (pos n)) (int_lt b (pos n)) [] [] _ _ refl refl (contract_reads_same d o s y g bs env (f +ℤ pos n) (a -ℤ pos n) (b -ℤ pos n)))))

pub one_meaning : DeclarationsGiveMeaning
one_meaning d o s =
    record {
      kinds = kind_same d o s;
      values = value_same d o s;
      reads = reads_same d o s;
      scales = contract_scale_same d o s;
      amounts = amount_same d o s;
      reads_of_contracts = contract_reads_same d o s;
    }
