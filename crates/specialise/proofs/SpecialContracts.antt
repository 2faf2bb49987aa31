-- A specialised contract pays what the contract pays, on its frame, and reads nothing that the contract does not read.
use Rattle.std.proofs.Common.{◌≡◌, ℕ, suc, ℤ, pos, ◌+ℤ◌, ◌-ℤ◌, ◌*ℤ◌, ◌+◌, ◌-◌, max, Bool, ◌||◌, int_lt, Option, Some, None, List, ◌∷◌, [], refl, ap, ap₂, ◌∙◌, inl, arith}
use Rattle.std.proofs.lemmas.Int.{ints}
use Rattle.decimal.specs.Rounding.{raised}
use Rattle.term_model.specs.Declarations.{Declarations}
use Rattle.term_model.specs.declared.values.Kind.{Kind}
use Rattle.term_model.specs.declared.values.Value.{Value}
use Rattle.term_model.specs.Terms.{Expression, Contract, Zero, Pay, Both, Scale, After, Let, Within}
use Rattle.term_model.specs.Environments.{Environment}
use Rattle.term_model.specs.Kinds.{kind_of}
use Rattle.term_model.specs.Values.{Entry, kinds, num, truth, kind_or, value_of, first_true}
use Rattle.term_model.specs.Flows.{flow_of, amount_of, count_of, scale_of_contract}
use Rattle.term_model.specs.Reads.{reads_of, reads_of_contract, live, upto, tested}
use Rattle.term_model.specs.Redexes.{moved}
use Rattle.rewriting.proofs.NameFlows.{same_first}
use Rattle.rewriting.proofs.Among.{among_none, among_same, among_both, then_among, among_steps, one_name_more, among_unless, among_if_same, among_branches}
use Rattle.specialise.specs.Specialising.{specialised, specialised_in}
use Rattle.specialise.specs.Specialised.{IsOn, MayCome}
use Rattle.specialise.specs.LawsSpecialContracts.{ContractScales, ContractFlows, ContractReads, ContractIsSmaller, SpecialisedCarries}
use Rattle.rewriting.proofs.Branches.{two_raised, same_branch, same_test, branch_reads}
use Rattle.term_model.proofs.ContractReadFacts.{test_reads}
use Rattle.specialise.proofs.SpecialValues.{special_kind, special_scale, special_value, on_moved}
use Rattle.rewriting.specs.Measures.{size}
use Rattle.rewriting.specs.Measures.{size_in}
use Rattle.specialise.proofs.SpecialSizes.{less_one, less_two, less_three, special_smaller}
use Rattle.specialise.proofs.SpecialReads.{special_reads}

pub contract_scale : ContractScales
contract_scale d F o Zero ks = refl
contract_scale d F o (Pay a p q) ks = refl
contract_scale d F o (Both a b) ks = ap₂ max (contract_scale d F o a ks) (contract_scale d F o b ks)
contract_scale d F o (Scale e c) ks = ap₂ (λ (s t : ℕ). s + t) (special_scale d F o e ks) (contract_scale d F o c ks)
contract_scale d F o (After n c) ks = contract_scale d F (moved (pos (count_of n)) o) c ks
contract_scale d F o (Let e c) ks =
    ap (λ (r : Option Kind). scale_of_contract d (specialised_in d F o c) (kind_or r ∷ ks)) (special_kind d F o e ks) ∙ contract_scale d F o c (kind_or (kind_of d e ks) ∷ ks)
contract_scale d F o (Within e n a b) ks = ap₂ max (contract_scale d F None a ks) (contract_scale d F (moved (pos (count_of n)) o) b ks)

special_first : (d : Declarations) (F : Environment) (e : Expression) (g : List Entry) (env : Environment) (f : ℤ) (n : ℕ) → MayCome d F env → first_true d (specialised d F None e) g env f n ≡ first_true d e g env f n
special_first d F e g env f n a = same_first n _ _ (λ i. ap truth (special_value d F None e g env (f +ℤ pos i) a tt))

special_entry : (d : Declarations) (F : Environment) (o : Option ℤ) (e : Expression) (g : List Entry) (env : Environment) (f : ℤ) → MayCome d F env → IsOn o f → (let entry : Entry = record { value = value_of d (specialised d F o e) g env f; kind = kind_or (kind_of d (specialised d F o e) (kinds g)) } in entry) ≡ record { value = value_of d e g env f; kind = kind_or (kind_of d e (kinds g)) }
special_entry d F o e g env f a i =
    ap₂ (λ (u : Value) (k : Option Kind). let entry : Entry = record { value = u; kind = kind_or k } in entry) (special_value d F o e g env f a i) (special_kind d F o e (kinds g))

pub contract_flow : ContractFlows
contract_flow d F o Zero g env f n w a i = refl
contract_flow d F o (Pay x p q) g env f n w a i = refl
contract_flow d F o (Both x y) g env f n w a i =
    two_raised _ _ _ _ _ _ _ _ (contract_flow d F o x g env f n w a i) (contract_flow d F o y g env f n w a i) (contract_scale d F o x (kinds g)) (contract_scale d F o y (kinds g))
contract_flow d F o (Scale e c) g env f n w a i = ap₂ (λ (p q : ℤ). p *ℤ q) (ap num (special_value d F o e g env f a i)) (contract_flow d F o c g env f n w a i)
contract_flow d F o (After m c) g env f n w a i =
    contract_flow d F (moved (pos (count_of m)) o) c g env (f +ℤ pos (count_of m)) (n -ℤ pos (count_of m)) w a (on_moved o f _ _ refl i)
contract_flow d F o (Let e c) g env f n w a i =
    ap (λ (entry : Entry). flow_of d (specialised_in d F o c) (entry ∷ g) env f n w) (special_entry d F o e g env f a i)
    ∙ contract_flow d F o c (record { value = value_of d e g env f; kind = kind_or (kind_of d e (kinds g)) } ∷ g) env f n w a i
contract_flow d F o (Within e m x y) g env f n w a i =
    let o' = moved (pos (count_of m)) o in
    let x' = specialised_in d F None x in
    let y' = specialised_in d F o' y in
    let ix = contract_scale d F None x (kinds g) in
    let iy = contract_scale d F o' y (kinds g) in
    let sx = scale_of_contract d x' (kinds g) in
    let sy = scale_of_contract d y' (kinds g) in
    same_branch _ (first_true d e g env f (count_of m)) _ _ _ _ (special_first d F e g env f (count_of m) a)
    (λ k. ap (λ (z : ℤ). raised z (max sx sy - sx)) (contract_flow d F None x g env (f +ℤ pos k) (n -ℤ pos k) w a tt) ∙ ap₂ (λ (s t : ℕ). raised (flow_of d x g env (f +ℤ pos k) (n -ℤ pos k) w) (max s t - s)) ix iy)
    (ap (λ (z : ℤ). raised z (max sx sy - sy)) (contract_flow d F o' y g env (f +ℤ pos (count_of m)) (n -ℤ pos (count_of m)) w a (on_moved o f _ _ refl i)) ∙ ap₂ (λ (s t : ℕ). raised (flow_of d y g env (f +ℤ pos (count_of m)) (n -ℤ pos (count_of m)) w) (max s t - t)) ix iy)

pub contract_live : (d : Declarations) (F : Environment) (o : Option ℤ) (c : Contract) (g : List Entry) (env : Environment) (f a b : ℤ) → MayCome d F env → IsOn o f → live d (specialised_in d F o c) g env f a b ≡ live d c g env f a b
contract_live d F o Zero g env f a b m i = refl
contract_live d F o (Pay x p q) g env f a b m i = refl
contract_live d F o (Both x y) g env f a b m i = ap₂ (λ (s t : Bool). s || t) (contract_live d F o x g env f a b m i) (contract_live d F o y g env f a b m i)
contract_live d F o (Scale e c) g env f a b m i = contract_live d F o c g env f a b m i
contract_live d F o (After n c) g env f a b m i =
    contract_live d F (moved (pos (count_of n)) o) c g env (f +ℤ pos (count_of n)) (a -ℤ pos (count_of n)) (b -ℤ pos (count_of n)) m (on_moved o f _ _ refl i)
contract_live d F o (Let e c) g env f a b m i =
    ap (λ (entry : Entry). live d (specialised_in d F o c) (entry ∷ g) env f a b) (special_entry d F o e g env f m i)
    ∙ contract_live d F o c (record { value = value_of d e g env f; kind = kind_or (kind_of d e (kinds g)) } ∷ g) env f a b m i
contract_live d F o (Within e n x y) g env f a b m i =
    same_test _ (first_true d e g env f (count_of n)) _ _ _ _ (special_first d F e g env f (count_of n) m)
    (λ k. contract_live d F None x g env (f +ℤ pos k) (a -ℤ pos k) (b -ℤ pos k) m tt)
    (contract_live d F (moved (pos (count_of n)) o) y g env (f +ℤ pos (count_of n)) (a -ℤ pos (count_of n)) (b -ℤ pos (count_of n)) m (on_moved o f _ _ refl i))

-- ---- what is read

pub contract_reads : ContractReads
contract_reads d F o Zero g bs cs env f a b m i h = among_none []
contract_reads d F o (Pay x p q) g bs cs env f a b m i h = among_none []
contract_reads d F o (Both x y) g bs cs env f a b m i h = among_both _ _ _ _ (contract_reads d F o x g bs cs env f a b m i h) (contract_reads d F o y g bs cs env f a b m i h)
contract_reads d F o (Scale e c) g bs cs env f a b m i h =
    among_both _ _ _ _ (contract_reads d F o c g bs cs env f a b m i h) (among_if_same _ _ _ _ (contract_live d F o c g env f a b m i) (special_reads d F o e g bs cs env f m i h))
contract_reads d F o (After n c) g bs cs env f a b m i h =
    contract_reads d F (moved (pos (count_of n)) o) c g bs cs env (f +ℤ pos (count_of n)) (a -ℤ pos (count_of n)) (b -ℤ pos (count_of n)) m (on_moved o f _ _ refl i) h
contract_reads d F o (Let e c) g bs cs env f a b m i h =
    let es : List Entry = record { value = value_of d e g env f; kind = kind_or (kind_of d e (kinds g)) } ∷ g in
    let ps = reads_of d (specialised d F o e) g bs env f in
    then_among _ (reads_of_contract d (specialised_in d F o c) es (ps ∷ bs) env f a b) _
    (among_same _ _ (ap (λ (entry : Entry). reads_of_contract d (specialised_in d F o c) (entry ∷ g) (ps ∷ bs) env f a b) (special_entry d F o e g env f m i)))
    (contract_reads d F o c es (ps ∷ bs) (reads_of d e g cs env f ∷ cs) env f a b m i (one_name_more ps (reads_of d e g cs env f) bs cs (special_reads d F o e g bs cs env f m i h) h))
contract_reads d F o (Within e n x y) g bs cs env f a b m i h =
    let c = count_of n in
    let o' = moved (pos c) o in
    let e' = specialised d F None e in
    let x' = specialised_in d F None x in
    let y' = specialised_in d F o' y in
    let first = first_true d e g env f c in
    let first' = first_true d e' g env f c in
    let last = tested first c b in
    let tests' = test_reads d e' g bs env f in
    let tests = test_reads d e g cs env f in
    among_unless (int_lt b (pos 0)) _ _
    (among_both (upto (tested first' c b) tests') (branch_reads first' c b (λ k. reads_of_contract d x' g bs env (f +ℤ pos k) (a -ℤ pos k) (b -ℤ pos k)) (reads_of_contract d y' g bs env (f +ℤ pos c) (a -ℤ pos c) (b -ℤ pos c))) (upto last tests) (branch_reads first c b (λ k. reads_of_contract d x g cs env (f +ℤ pos k) (a -ℤ pos k) (b -ℤ pos k)) (reads_of_contract d y g cs env (f +ℤ pos c) (a -ℤ pos c) (b -ℤ pos c)))
    (then_among (upto (tested first' c b) tests') (upto last tests') (upto last tests)
    (among_same (upto (tested first' c b) tests') (upto last tests') (ap (λ (r : Option ℕ). upto (tested r c b) tests') (special_first d F e g env f c m)))
    (among_steps (suc last) tests' tests (λ j. special_reads d F None e g bs cs env (f +ℤ pos j) m tt h)))
    (among_branches first' first c b _ _ _ _ (special_first d F e g env f c m)
    (λ k. contract_reads d F None x g bs cs env (f +ℤ pos k) (a -ℤ pos k) (b -ℤ pos k) m tt h)
    (contract_reads d F o' y g bs cs env (f +ℤ pos c) (a -ℤ pos c) (b -ℤ pos c) m (on_moved o f _ _ refl i) h)))

-- ---- sizes, and no days

pub contract_smaller : ContractIsSmaller
contract_smaller d F o Zero = inl refl
contract_smaller d F o (Pay a p q) = inl refl
contract_smaller d F o (Both a b) = less_two size_in size_in size_in Both 1 (λ _ _. refl) _ a _ b (contract_smaller d F o a) (contract_smaller d F o b)
contract_smaller d F o (Scale e c) = less_two size size_in size_in Scale 1 (λ _ _. refl) _ e _ c (special_smaller d F o e) (contract_smaller d F o c)
contract_smaller d F o (After n c) = less_one size_in size_in (After n) 1 (λ _. refl) _ c (contract_smaller d F (moved (pos (count_of n)) o) c)
contract_smaller d F o (Let e c) = less_two size size_in size_in Let 1 (λ _ _. refl) _ e _ c (special_smaller d F o e) (contract_smaller d F o c)
contract_smaller d F o (Within e n a b) =
    less_three size size_in size_in size_in (λ x y z. Within x n y z) 1 (λ _ _ _. refl) _ e _ a _ b (special_smaller d F None e) (contract_smaller d F None a) (contract_smaller d F (moved (pos (count_of n)) o) b)

pub special_carries : SpecialisedCarries
special_carries d F c f =
    let here : f +ℤ pos 0 ≡ f = omega (arith, ints) in
    let none : (k : ℕ) → k ≡ 0 + k = λ k. omega arith in
    record {
      amounts = λ env a x n w.
          ap (λ (h : ℤ). amount_of d (specialised_in d F (Some f) c) env h (pos n) w) here
          ∙ ap₂ (λ (v : ℤ) (s : ℕ). raised v (d.amounts - s)) (contract_flow d F (Some f) c [] env f (pos n) w (a, x) refl) (contract_scale d F (Some f) c [])
          ∙ ap (λ (k : ℕ). amount_of d c env f (pos k) w) (none n);
      reads = λ env a x b q p.
          among_same (reads_of_contract d c [] [] env f (pos 0) (pos b)) (reads_of_contract d c [] [] env f (pos 0) (pos (0 + b))) (ap (λ (k : ℕ). reads_of_contract d c [] [] env f (pos 0) (pos k)) (none b)) q
          (contract_reads d F (Some f) c [] [] [] env f (pos 0) (pos b) (a, x) refl (λ k q' p'. p') q
          (among_same (reads_of_contract d (specialised_in d F (Some f) c) [] [] env (f +ℤ pos 0) (pos 0) (pos b)) (reads_of_contract d (specialised_in d F (Some f) c) [] [] env f (pos 0) (pos b)) (ap (λ (h : ℤ). reads_of_contract d (specialised_in d F (Some f) c) [] [] env h (pos 0) (pos b)) here) q p));
    }
