-- A contract that has a type pays the same up to a day in two environments that agree up to that day.
use Rattle.std.proofs.Common.{◌≡◌, ℕ, ℤ, pos, negsuc, ◌+ℤ◌, ◌-ℤ◌, ◌*ℤ◌, ◌<◌, ◌≤ℤ◌, ◌<ℤ◌, ◌-◌, max, List, [], ◌∷◌, Option, Some, None, refl, ap, ap₂, sym, ◌∙◌, inl, inr, arith}
use Rattle.std.proofs.lemmas.Int.{ints, by_lt_z}
use Rattle.decimal.specs.Rounding.{raised}
use Rattle.term_model.specs.Declarations.{Declarations}
use Rattle.term_model.specs.declared.values.Kind.{Kind}
use Rattle.term_model.specs.Terms.{Contract, Zero, Pay, Both, Scale, After, Let, Within}
use Rattle.term_model.specs.Environments.{Environment, AgreeUpTo}
use Rattle.term_model.specs.Kinds.{kind_of}
use Rattle.term_model.specs.Values.{Entry, kinds, kind_or, num, truth, value_of, first_true}
use Rattle.term_model.specs.Flows.{Flow, count_of, scale_of_contract, flow_of}
use Rattle.term_model.specs.Times.{TypedContract, lowered_by}
use Rattle.term_model.proofs.FlowFacts.{flow_idle, one_zero}
use Rattle.term_model.proofs.TimeFacts.{times_mean_typed}
use Rattle.contract_check.specs.CausalityLaws.{TypedAreCausal, TimedAreCausal, AcceptedAreCausal}
use Rattle.contract_check.proofs.KnownNames.{SameNames, same_kinds, sooner, lowered_names}
use Rattle.contract_check.proofs.KnownValues.{values_known}
use Rattle.contract_check.proofs.FirstDays.{IsLate, SameOrLate, first_same}
use Rattle.contract_check.proofs.QuietDays.{flow_quiet}
use Rattle.term_model.proofs.ContractReadFacts.{branch_flow}

-- by how many decimals a part is below the whole of two contracts, by the kinds of their names
abbrev below : Declarations → Contract → Contract → Contract → List Kind → ℕ
below d a b part ks = max (scale_of_contract d a ks) (scale_of_contract d b ks) - scale_of_contract d part ks

sum_same : (F G : List Kind → ℕ) (ks js : List Kind) (x y v w : ℤ) → ks ≡ js → x ≡ y → v ≡ w → raised x (F ks) +ℤ raised v (G ks) ≡ raised y (F js) +ℤ raised w (G js)
sum_same F G ks js x y v w e h k =
    ap₂ (λ (i : List Kind) (a : ℤ). raised a (F i) +ℤ raised v (G i)) e h ∙ ap (λ (a : ℤ). raised y (F js) +ℤ raised a (G js)) k

-- a factor that is known on day s, and a body that pays nothing before it
product_same : (n s x y v w : ℤ) → (n <ℤ s → v ≡ pos 0) → (n <ℤ s → w ≡ pos 0) → (s ≤ℤ n → x ≡ y) → v ≡ w → x *ℤ v ≡ y *ℤ w
product_same n s x y v w h j k e =
    by_lt_z n s (λ i. ap (λ (z : ℤ). x *ℤ z) (h i) ∙ grind (arith, ints) ∙ sym (ap (λ (z : ℤ). y *ℤ z) (j i))) (λ i. ap₂ (λ (a b : ℤ). a *ℤ b) (k i) e)

-- a branch that is branch_flow late pays nothing yet
entered_late : (n m : ℕ) (o : Option ℕ) (x : ℕ → ℤ) (y : ℤ) (k l : ℕ) → IsLate n m o → ((i : ℕ) → n < i → x i ≡ pos 0) → (n < m → y ≡ pos 0) → branch_flow o x y k l ≡ pos 0
entered_late n m (Some i) x y k l h p q = one_zero (x i) k (p i h)
entered_late n m None x y k l h p q = one_zero y l (q h)

entered_same : (o : Option ℕ) (F G : List Kind → ℕ) (ks js : List Kind) (x v : ℕ → ℤ) (y w : ℤ) → ks ≡ js → ((i : ℕ) → x i ≡ v i) → y ≡ w → branch_flow o x y (F ks) (G ks) ≡ branch_flow o v w (F js) (G js)
entered_same (Some i) F G ks js x v y w e h k = ap₂ (λ (j : List Kind) (a : ℤ). raised a (F j)) e (h i)
entered_same None F G ks js x v y w e h k = ap₂ (λ (j : List Kind) (a : ℤ). raised a (G j)) e k

branch_same : (n m : ℕ) (o u : Option ℕ) (F G : List Kind → ℕ) (ks js : List Kind) (x v : ℕ → ℤ) (y w : ℤ) → SameOrLate n m o u → ks ≡ js → ((i : ℕ) → x i ≡ v i) → y ≡ w → ((i : ℕ) → n < i → x i ≡ pos 0) → (n < m → y ≡ pos 0) → branch_flow o x y (F ks) (G ks) ≡ branch_flow u v w (F js) (G js)
branch_same n m o u F G ks js x v y w (inl same) e h k p q =
    ap (λ (a : Option ℕ). branch_flow a x y (F ks) (G ks)) same ∙ entered_same u F G ks js x v y w e h k
branch_same n m o u F G ks js x v y w (inr late) e h k p q =
    entered_late n m o x y (F ks) (G ks) late.0 p q
    ∙ sym (entered_late n m u v w (F js) (G js) late.1 (λ i lt. sym (h i) ∙ p i lt) (λ lt. sym k ∙ q lt))

-- the names of a part that stands some days later: all their times are so much earlier, or stay
names_later : (last f : ℤ) (k : ℕ) (g : List ℤ) (xs ys : List Entry) → SameNames (last -ℤ f) g xs ys → SameNames (last -ℤ (f +ℤ pos k)) (lowered_by k g) xs ys
names_later last f k g xs ys s =
    sooner (last -ℤ (f +ℤ pos k)) ((last -ℤ f) -ℤ pos k) (lowered_by k g) xs ys (omega (arith, ints)) (lowered_names (last -ℤ f) k g xs ys s)

names_kept : (last f : ℤ) (k : ℕ) (g : List ℤ) (xs ys : List Entry) → SameNames (last -ℤ f) g xs ys → SameNames (last -ℤ (f +ℤ pos k)) g xs ys
names_kept last f k g xs ys s = sooner (last -ℤ (f +ℤ pos k)) (last -ℤ f) g xs ys (omega (arith, ints)) s

-- a name is known where its time, counted from the frame, is no later than the last day on which the environments agree
abbrev pub FlowsAreKnown : Declarations → ℤ → Environment → Environment → Contract → Type 0
FlowsAreKnown d last one other c =
    (g : List ℤ) (t : ℤ) (xs ys : List Entry) (f n : ℤ) (w : Flow) → TypedContract g c t → SameNames (last -ℤ f) g xs ys → (f +ℤ n) ≤ℤ last
    → flow_of d c xs one f n w ≡ flow_of d c ys other f n w

pub flows_known : (d : Declarations) (last : ℤ) (one other : Environment) → AgreeUpTo d last one other → (c : Contract) → FlowsAreKnown d last one other c
flows_known d last one other same Zero g t xs ys f n w p s i = refl
flows_known d last one other same (Pay a from to) g t xs ys f n w p s i = refl
flows_known d last one other same (Both a b) g t xs ys f n w p s i =
    sum_same (below d a b a) (below d a b b) _ _ _ _ _ _ (same_kinds (last -ℤ f) g xs ys s) (flows_known d last one other same a g t xs ys f n w p.0 s i) (flows_known d last one other same b g t xs ys f n w p.1 s i)
flows_known d last one other same (Scale e c) g t xs ys f n w p s i =
    let u : ℤ = p.0 in
    product_same n u _ _ _ _ (flow_quiet d c g u xs one f n w p.3) (flow_quiet d c g u ys other f n w p.3) (λ le. ap num (values_known d last one other same e g u xs ys f p.2 (sooner u (last -ℤ f) g xs ys (omega (arith, ints)) s) (omega (arith, ints)))) (flows_known d last one other same c g u xs ys f n w p.3 s i)
flows_known d last one other same (After m c) g t xs ys f n w p s i =
    let k : ℕ = count_of m in
    flows_known d last one other same c (lowered_by k g) (t -ℤ pos k) xs ys (f +ℤ pos k) (n -ℤ pos k) w p
    (names_later last f k g xs ys s) (omega (arith, ints))
flows_known d last one other same (Let e c) g t xs ys f n w p s i =
    let u : ℤ = p.0 in
    flows_known d last one other same c (u ∷ g) t
    (record { value = value_of d e xs one f; kind = kind_or (kind_of d e (kinds xs)) } ∷ xs)
    (record { value = value_of d e ys other f; kind = kind_or (kind_of d e (kinds ys)) } ∷ ys)
    f n w p.2
    (ap (λ (ks : List Kind). kind_or (kind_of d e ks)) (same_kinds (last -ℤ f) g xs ys s), (λ le. values_known d last one other same e g u xs ys f p.1 (sooner u (last -ℤ f) g xs ys le s) (omega (arith, ints))), s)
    i
flows_known d last one other same (Within e m a b) g t xs ys f (negsuc n) w p s i =
    flow_idle d (Within e m a b) xs one f (negsuc n) w (inl (omega (arith, ints)))
    ∙ sym (flow_idle d (Within e m a b) ys other f (negsuc n) w (inl (omega (arith, ints))))
flows_known d last one other same (Within e m a b) g t xs ys f (pos n) w p s i =
    let k : ℕ = count_of m in
    branch_same n k (first_true d e xs one f k) (first_true d e ys other f k)
    (below d a b a) (below d a b b) (kinds xs) (kinds ys)
    (λ j. flow_of d a xs one (f +ℤ pos j) (pos n -ℤ pos j) w) (λ j. flow_of d a ys other (f +ℤ pos j) (pos n -ℤ pos j) w)
    (flow_of d b xs one (f +ℤ pos k) (pos n -ℤ pos k) w) (flow_of d b ys other (f +ℤ pos k) (pos n -ℤ pos k) w)
    (first_same n k _ _ (λ j le. ap truth (values_known d last one other same e g (pos 0) xs ys (f +ℤ pos j) p.0 (sooner (pos 0) (last -ℤ f) g xs ys (omega (arith, ints)) s) (omega (arith, ints)))))
    (same_kinds (last -ℤ f) g xs ys s)
    (λ j. flows_known d last one other same a g t xs ys (f +ℤ pos j) (pos n -ℤ pos j) w p.1 (names_kept last f j g xs ys s) (omega (arith, ints)))
    (flows_known d last one other same b (lowered_by k g) (t -ℤ pos k) xs ys (f +ℤ pos k) (pos n -ℤ pos k) w p.2
    (names_later last f k g xs ys s) (omega (arith, ints)))
    (λ j lt. flow_idle d a xs one (f +ℤ pos j) (pos n -ℤ pos j) w (inl (omega (arith, ints))))
    (λ lt. flow_idle d b xs one (f +ℤ pos k) (pos n -ℤ pos k) w (inl (omega (arith, ints))))

pub typed_are_causal : TypedAreCausal
typed_are_causal d c t p one other admitted admitted' f n same m le w =
    ap (λ (x : ℤ). raised x (d.amounts - scale_of_contract d c []))
    (flows_known d (f +ℤ n) one other same c [] t [] [] f m w p tt (omega (arith, ints)))

pub timed_are_causal : TimedAreCausal
timed_are_causal d c h =
    let type = (times_mean_typed d c).0 h in
    typed_are_causal d c type.0 type.1

pub accepted_are_causal : AcceptedAreCausal
accepted_are_causal d c h = timed_are_causal d c h.times
