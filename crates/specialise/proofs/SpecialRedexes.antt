-- No observable that is fixed and no accumulator that is known stands in what is specialised.
use Rattle.std.proofs.Common.{◌≡◌, ℕ, suc, ℤ, pos, ◌+ℤ◌, ◌-ℤ◌, ◌+◌, Bool, true, false, ◌&&◌, if◌then◌else◌, Option, Some, None, List, ◌∷◌, [], ◌++◌, is_some, refl, ap, ap₂, sym, ◌∙◌, inl, inr, arith}
use Rattle.std.proofs.lemmas.Int.{ints}
use Rattle.std.specs.List.{list_all}
use Rattle.term_model.specs.Declarations.{Declarations}
use Rattle.term_model.specs.declared.values.Kind.{Kind}
use Rattle.term_model.specs.declared.values.Kind.TheVariants.{Truth as TruthKind, Number}
use Rattle.term_model.specs.declared.values.Value.{Value}
use Rattle.term_model.specs.Terms.{Expression, Lit, Yes, Var, Obs, Neg, Num, Cmp, Not, Logic, Cond, Widen, Round, Div, Acc}
use Rattle.term_model.specs.Terms.{Contract, Zero, Pay, Both, Scale, After, Let, Within}
use Rattle.term_model.specs.Environments.{Environment, Place, IsAdmitted}
use Rattle.term_model.specs.Kinds.{kind_of, scale_of, scale_of_kind}
use Rattle.term_model.specs.Values.{truth, widened, kind_or, value_of, days_run}
use Rattle.term_model.specs.Flows.{count_of}
use Rattle.term_model.specs.Reads.{reads_of, steps_before, decides, is_fixed}
use Rattle.term_model.specs.Sites.{OfExpression, OfContract}
use Rattle.term_model.specs.Redexes.{Redex, FixedPlace, FixedSteps, EmptyLeft, EmptyRight, ScaledNothing, ZeroFactor, NoDelay, TwoDelays, DelayedNothing, UnusedName, LiteralName, NothingEither, DecidedTest, LiteralOperands, DecidedChoice, NoSteps, is_redex, names_within, reads_are_fixed, moved}
use Rattle.term_model.specs.Bounds.{Range, range_kinds}
use Rattle.term_model.proofs.AlikeFacts.{all-append}
use Rattle.interval_check.specs.Nodes.{IsSorted, IsSortedContract, range_of, range_after}
use Rattle.interval_check.proofs.GuaranteeFacts.{rules_are_by_structure}
use Rattle.rewriting.specs.Replacing.{literal_of}
use Rattle.rewriting.specs.Reduced.{IsNoRedex, NoneIn, NoneInContract}
use Rattle.rewriting.proofs.ReducedFacts.{reduced_by_structure}
use Rattle.specialise.specs.Specialising.{is_known, specialised, specialised_in}
use Rattle.specialise.specs.Specialised.{IsOn, MayCome}
use Rattle.specialise.specs.Specialised.{IsToldKind}
use Rattle.specialise.specs.LawsSpecialContracts.{SpecialisedLeavesNone}
use Rattle.specialise.proofs.ClosedFacts.{kind_among, agree_none, names_more}
use Rattle.specialise.proofs.ToldFacts.{told_cases, literal_reads, on_day}
use Rattle.specialise.proofs.SpecialValues.{special_kind, special_value, on_moved}
use Rattle.specialise.proofs.SpecialSizes.{nothing_told}

literal_names : (k : Kind) (v : Value) (j : ℕ) → names_within j (literal_of k v) ≡ true
literal_names TruthKind v j = refl
literal_names (Number s) v j = refl

pub and_same : (a b c e : Bool) → a ≡ c → b ≡ e → (a && b) ≡ (c && e)
and_same a b c e h k = ap₂ (λ (x y : Bool). x && y) h k

-- what is specialised holds a name bound outside it only where the other does
pub special_names : (d : Declarations) (F : Environment) (o : Option ℤ) (e : Expression) (j : ℕ) → names_within j (specialised d F o e) ≡ names_within j e
special_names d F o (Lit m s) j = refl
special_names d F o (Yes b) j = refl
special_names d F o (Var back) j = refl
special_names d F o (Obs l t) j = told_cases (λ y. names_within j y ≡ true) d F o (Obs l t) (Obs l t) (λ f k e. literal_names k _ j) (λ _. refl)
special_names d F o (Neg e) j = special_names d F o e j
special_names d F o (Num op a b) j = and_same _ _ _ _ (special_names d F o a j) (special_names d F o b j)
special_names d F o (Cmp op a b) j = and_same _ _ _ _ (special_names d F o a j) (special_names d F o b j)
special_names d F o (Not e) j = special_names d F o e j
special_names d F o (Logic op a b) j = and_same _ _ _ _ (special_names d F o a j) (special_names d F o b j)
special_names d F o (Cond t a b) j = and_same _ _ _ _ (special_names d F o t j) (and_same _ _ _ _ (special_names d F o a j) (special_names d F o b j))
special_names d F o (Widen s e) j = special_names d F o e j
special_names d F o (Round mode s e) j = special_names d F o e j
special_names d F o (Div mode s a b) j = and_same _ _ _ _ (special_names d F o a j) (special_names d F o b j)
special_names d F o (Acc body n first) j =
    told_cases (λ y. names_within j y ≡ names_within j (Acc body n first)) d F o (Acc body n first) _
    (λ f k e. literal_names k _ j ∙ sym (names_more (Acc body n first) 0 j (omega arith) e.closed))
    (λ _. and_same _ _ _ _ (special_names d F None body (j + 1)) (special_names d F (moved (pos 0 -ℤ pos n) o) first j))

all_chosen : (ok : Place → Bool) (b c : Bool) (xs xs' ys ys' : List Place) → b ≡ c → list_all ok xs ≡ list_all ok xs' → list_all ok ys ≡ list_all ok ys' → list_all ok (if b then xs else ys) ≡ list_all ok (if c then xs' else ys')
all_chosen ok b c xs xs' ys ys' e h k = at b ∙ ap (λ (t : Bool). list_all ok (if t then xs' else ys')) e
  where
    at : (t : Bool) → list_all ok (if t then xs else ys) ≡ list_all ok (if t then xs' else ys')
    at true = h
    at false = k

all_both : (ok : Place → Bool) (xs xs' ys ys' : List Place) → list_all ok xs ≡ list_all ok xs' → list_all ok ys ≡ list_all ok ys' → list_all ok (xs ++ ys) ≡ list_all ok (xs' ++ ys')
all_both ok xs xs' ys ys' h k = all-append ok xs ys ∙ and_same _ _ _ _ h k ∙ sym (all-append ok xs' ys')

-- the fixings themselves may come
pub themselves : (d : Declarations) (F : Environment) → IsAdmitted d F → MayCome d F F
themselves d F a = (a, λ q v h. h)

-- reads of an accumulator with another start that has its kind and value
with_start : (d : Declarations) (F : Environment) (body first first' : Expression) (n : ℕ) (f : ℤ) → kind_of d first' [] ≡ kind_of d first [] → value_of d first' [] F (f -ℤ pos n) ≡ value_of d first [] F (f -ℤ pos n) → list_all (is_fixed F) (reads_of d first' [] [] F (f -ℤ pos n)) ≡ list_all (is_fixed F) (reads_of d first [] [] F (f -ℤ pos n)) → list_all (is_fixed F) (reads_of d (Acc body n first') [] [] F f) ≡ list_all (is_fixed F) (reads_of d (Acc body n first) [] [] F f)
with_start d F body first first' n f kind value fixed =
    let from = f -ℤ pos n in
    let before : Kind → Value → ℕ → Value = λ k v j. days_run j (λ i u. widened (scale_of d body (k ∷ [])) (scale_of_kind k) (value_of d body (record { value = u; kind = k } ∷ []) F (from +ℤ pos i))) v in
    let steps : Option Kind → Value → List Place = λ r v. steps_before n (λ j. reads_of d body (record { value = before (kind_or r) v j; kind = kind_or r } ∷ []) ([] ∷ []) F (from +ℤ pos (suc j))) in
    all_both (is_fixed F) (reads_of d first' [] [] F from) (reads_of d first [] [] F from) (steps (kind_of d first' []) (value_of d first' [] F from)) (steps (kind_of d first []) (value_of d first [] F from)) fixed (ap (list_all (is_fixed F)) (ap₂ steps kind value))

-- what is specialised reads what is fixed alone exactly where the other does
pub special_fixed : (d : Declarations) (F : Environment) (o : Option ℤ) (e : Expression) (f : ℤ) → IsAdmitted d F → IsOn o f → list_all (is_fixed F) (reads_of d (specialised d F o e) [] [] F f) ≡ list_all (is_fixed F) (reads_of d e [] [] F f)
special_fixed d F o (Lit m s) f a i = refl
special_fixed d F o (Yes b) f a i = refl
special_fixed d F o (Var back) f a i = refl
special_fixed d F o (Obs l t) f a i =
    told_cases (λ y. list_all (is_fixed F) (reads_of d y [] [] F f) ≡ list_all (is_fixed F) (reads_of d (Obs l t) [] [] F f)) d F o (Obs l t) (Obs l t)
    (λ h k e. known_fixed d F (Obs l t) k _ h f (on_day o f h e.on i) e.fixed) (λ _. refl)
  where
    known_fixed : (d : Declarations) (F : Environment) (e : Expression) (k : Kind) (v : Value) (h f : ℤ) → h ≡ f → list_all (is_fixed F) (reads_of d e [] [] F h) ≡ true → list_all (is_fixed F) (reads_of d (literal_of k v) [] [] F f) ≡ list_all (is_fixed F) (reads_of d e [] [] F f)
    known_fixed d F e k v h f same p = ap (list_all (is_fixed F)) (literal_reads d k v [] [] F f) ∙ sym p ∙ ap (λ (x : ℤ). list_all (is_fixed F) (reads_of d e [] [] F x)) same
special_fixed d F o (Neg e) f a i = special_fixed d F o e f a i
special_fixed d F o (Num op x y) f a i = all_both (is_fixed F) _ _ _ _ (special_fixed d F o x f a i) (special_fixed d F o y f a i)
special_fixed d F o (Cmp op x y) f a i = all_both (is_fixed F) _ _ _ _ (special_fixed d F o x f a i) (special_fixed d F o y f a i)
special_fixed d F o (Not e) f a i = special_fixed d F o e f a i
special_fixed d F o (Logic op x y) f a i =
    all_both (is_fixed F) _ _ _ _ (special_fixed d F o x f a i) (all_chosen (is_fixed F) _ _ [] [] _ _ (ap (λ (v : Value). decides op (truth v)) (special_value d F o x [] F f (themselves d F a) i)) refl (special_fixed d F o y f a i))
special_fixed d F o (Cond t x y) f a i =
    all_both (is_fixed F) _ _ _ _ (special_fixed d F o t f a i) (all_chosen (is_fixed F) _ _ _ _ _ _ (ap truth (special_value d F o t [] F f (themselves d F a) i)) (special_fixed d F o x f a i) (special_fixed d F o y f a i))
special_fixed d F o (Widen s e) f a i = special_fixed d F o e f a i
special_fixed d F o (Round mode s e) f a i = special_fixed d F o e f a i
special_fixed d F o (Div mode s x y) f a i = all_both (is_fixed F) _ _ _ _ (special_fixed d F o x f a i) (special_fixed d F o y f a i)
special_fixed d F o (Acc body n first) f a i =
    let o' = moved (pos 0 -ℤ pos n) o in
    let i' : IsOn o' (f -ℤ pos n) = on_moved o f _ _ (omega (arith, ints)) i in
    told_cases (λ y. list_all (is_fixed F) (reads_of d y [] [] F f) ≡ list_all (is_fixed F) (reads_of d (Acc body n first) [] [] F f)) d F o (Acc body n first) (Acc (specialised d F None body) n (specialised d F o' first))
    (λ h k e. ap (list_all (is_fixed F)) (literal_reads d k _ [] [] F f) ∙ sym e.fixed ∙ ap (λ (x : ℤ). list_all (is_fixed F) (reads_of d (Acc body n first) [] [] F x)) (on_day o f h e.on i))
    (λ _. ap (λ (b : Expression). list_all (is_fixed F) (reads_of d (Acc b n (specialised d F o' first)) [] [] F f)) (nothing_told d F body)
    ∙ with_start d F body first (specialised d F o' first) n f (special_kind d F o' first []) (special_value d F o' first [] F (f -ℤ pos n) (themselves d F a) i') (special_fixed d F o' first (f -ℤ pos n) a i'))

-- an expression that may be one
abbrev pub may_be_told : Expression → Bool
may_be_told (Obs l t) = true
may_be_told (Acc body n first) = true
may_be_told _ = false

never_told : (d : Declarations) (F : Environment) (kind : Redex) → IsToldKind kind → (o : Option ℤ) (e : Expression) → may_be_told e ≡ false → is_redex d F o kind (OfExpression e) ≡ false
never_told d F FixedPlace p o (Obs l t) h = absurd (cc)
never_told d F FixedPlace p o e h = refl
never_told d F FixedSteps p o (Acc body n first) h = absurd (cc)
never_told d F FixedSteps p o e h = refl
never_told d F EmptyLeft p o e h = absurd p
never_told d F EmptyRight p o e h = absurd p
never_told d F ScaledNothing p o e h = absurd p
never_told d F ZeroFactor p o e h = absurd p
never_told d F NoDelay p o e h = absurd p
never_told d F TwoDelays p o e h = absurd p
never_told d F DelayedNothing p o e h = absurd p
never_told d F UnusedName p o e h = absurd p
never_told d F LiteralName p o e h = absurd p
never_told d F NothingEither p o e h = absurd p
never_told d F DecidedTest p o e h = absurd p
never_told d F LiteralOperands p o e h = absurd p
never_told d F DecidedChoice p o e h = absurd p
never_told d F NoSteps p o e h = absurd p

no_contract : (d : Declarations) (F : Environment) (kind : Redex) → IsToldKind kind → (o : Option ℤ) (c : Contract) → is_redex d F o kind (OfContract c) ≡ false
no_contract d F FixedPlace p o c = refl
no_contract d F FixedSteps p o c = refl
no_contract d F EmptyLeft p o c = absurd p
no_contract d F EmptyRight p o c = absurd p
no_contract d F ScaledNothing p o c = absurd p
no_contract d F ZeroFactor p o c = absurd p
no_contract d F NoDelay p o c = absurd p
no_contract d F TwoDelays p o c = absurd p
no_contract d F DelayedNothing p o c = absurd p
no_contract d F UnusedName p o c = absurd p
no_contract d F LiteralName p o c = absurd p
no_contract d F NothingEither p o c = absurd p
no_contract d F DecidedTest p o c = absurd p
no_contract d F LiteralOperands p o c = absurd p
no_contract d F DecidedChoice p o c = absurd p
no_contract d F NoSteps p o c = absurd p

literal_none : (d : Declarations) (F : Environment) (kind : Redex) → IsToldKind kind → (o : Option ℤ) (k : Kind) (v : Value) → NoneIn (IsNoRedex d F kind) o (literal_of k v)
literal_none d F kind p o TruthKind v = never_told d F kind p o (Yes (truth v)) refl
literal_none d F kind p o (Number s) v = never_told d F kind p o (literal_of (Number s) v) refl

has_no_kind : (d : Declarations) (e : Expression) (ks : List Kind) → names_within 0 e ≡ true → kind_of d e [] ≡ None → is_some (kind_of d e ks) ≡ true → false ≡ true
has_no_kind d e ks closed none some = ap is_some (sym none ∙ kind_among d e 0 [] ks closed (agree_none [] ks)) ∙ some

and_true : (b : Bool) → (b && true) ≡ b
and_true true = refl
and_true false = refl

place_none : (d : Declarations) (F : Environment) (kind : Redex) → IsToldKind kind → (o : Option ℤ) (l : ℕ) (t : ℤ) → reads_are_fixed d F o (Obs l t) ≡ false → is_redex d F o kind (OfExpression (Obs l t)) ≡ false
place_none d F FixedPlace p None l t h = refl
place_none d F FixedPlace p (Some f) l t h = sym (and_true _) ∙ h
place_none d F FixedSteps p o l t h = refl
place_none d F EmptyLeft p o l t h = absurd p
place_none d F EmptyRight p o l t h = absurd p
place_none d F ScaledNothing p o l t h = absurd p
place_none d F ZeroFactor p o l t h = absurd p
place_none d F NoDelay p o l t h = absurd p
place_none d F TwoDelays p o l t h = absurd p
place_none d F DelayedNothing p o l t h = absurd p
place_none d F UnusedName p o l t h = absurd p
place_none d F LiteralName p o l t h = absurd p
place_none d F NothingEither p o l t h = absurd p
place_none d F DecidedTest p o l t h = absurd p
place_none d F LiteralOperands p o l t h = absurd p
place_none d F DecidedChoice p o l t h = absurd p
place_none d F NoSteps p o l t h = absurd p

steps_none : (d : Declarations) (F : Environment) (kind : Redex) → IsToldKind kind → (o : Option ℤ) (body first : Expression) (n : ℕ) → is_known d F o (Acc body n first) ≡ false → is_redex d F o kind (OfExpression (Acc body n first)) ≡ false
steps_none d F FixedSteps p o body first n h = h
steps_none d F FixedPlace p o body first n h = refl
steps_none d F EmptyLeft p o body first n h = absurd p
steps_none d F EmptyRight p o body first n h = absurd p
steps_none d F ScaledNothing p o body first n h = absurd p
steps_none d F ZeroFactor p o body first n h = absurd p
steps_none d F NoDelay p o body first n h = absurd p
steps_none d F TwoDelays p o body first n h = absurd p
steps_none d F DelayedNothing p o body first n h = absurd p
steps_none d F UnusedName p o body first n h = absurd p
steps_none d F LiteralName p o body first n h = absurd p
steps_none d F NothingEither p o body first n h = absurd p
steps_none d F DecidedTest p o body first n h = absurd p
steps_none d F LiteralOperands p o body first n h = absurd p
steps_none d F DecidedChoice p o body first n h = absurd p
steps_none d F NoSteps p o body first n h = absurd p

-- an accumulator whose start is specialised is known exactly where it is
known_same : (d : Declarations) (F : Environment) (o : Option ℤ) (body first : Expression) (n : ℕ) → IsAdmitted d F → is_known d F o (Acc (specialised d F None body) n (specialised d F (moved (pos 0 -ℤ pos n) o) first)) ≡ is_known d F o (Acc body n first)
known_same d F o body first n a =
    and_same _ _ _ _ (and_same _ _ _ _ (special_names d F None body 1) (special_names d F (moved (pos 0 -ℤ pos n) o) first 0)) (reads o)
  where
    reads : (o : Option ℤ) → reads_are_fixed d F o (Acc (specialised d F None body) n (specialised d F (moved (pos 0 -ℤ pos n) o) first)) ≡ reads_are_fixed d F o (Acc body n first)
    reads None = refl
    reads (Some f) =
        let o' : Option ℤ = moved (pos 0 -ℤ pos n) (Some f) in
        let i' : IsOn o' (f -ℤ pos n) = omega (arith, ints) in
        ap (λ (b : Expression). list_all (is_fixed F) (reads_of d (Acc b n (specialised d F o' first)) [] [] F f)) (nothing_told d F body)
        ∙ with_start d F body first (specialised d F o' first) n f (special_kind d F o' first []) (special_value d F o' first [] F (f -ℤ pos n) (themselves d F a) i') (special_fixed d F o' first (f -ℤ pos n) a i')

pub none_told : (d : Declarations) (F : Environment) (kind : Redex) → IsToldKind kind → IsAdmitted d F → (o : Option ℤ) (e : Expression) (g : List Range) → IsSorted d e g → NoneIn (IsNoRedex d F kind) o (specialised d F o e)
none_told d F kind p a o (Lit m s) g r = never_told d F kind p o (Lit m s) refl
none_told d F kind p a o (Yes b) g r = never_told d F kind p o (Yes b) refl
none_told d F kind p a o (Var back) g r = never_told d F kind p o (Var back) refl
none_told d F kind p a o (Obs l t) g r =
    told_cases (NoneIn (IsNoRedex d F kind) o) d F o (Obs l t) (Obs l t) (λ f k e. literal_none d F kind p o k _) (λ u. elim u [
      | inl unknown ↦ place_none d F kind p o l t unknown
      | inr none ↦ absurd (cc (has_no_kind d (Obs l t) (range_kinds g) none.0 none.1 r))
    ])
none_told d F kind p a o (Neg e) g r = (none_told d F kind p a o e g r.0, never_told d F kind p o (Neg _) refl)
none_told d F kind p a o (Num op x y) g r = (none_told d F kind p a o x g r.0, none_told d F kind p a o y g r.1, never_told d F kind p o (Num op _ _) refl)
none_told d F kind p a o (Cmp op x y) g r = (none_told d F kind p a o x g r.0, none_told d F kind p a o y g r.1, never_told d F kind p o (Cmp op _ _) refl)
none_told d F kind p a o (Not e) g r = (none_told d F kind p a o e g r.0, never_told d F kind p o (Not _) refl)
none_told d F kind p a o (Logic op x y) g r = (none_told d F kind p a o x g r.0, none_told d F kind p a o y g r.1, never_told d F kind p o (Logic op _ _) refl)
none_told d F kind p a o (Cond t x y) g r =
    (none_told d F kind p a o t g r.0, none_told d F kind p a o x g r.1, none_told d F kind p a o y g r.2, never_told d F kind p o (Cond _ _ _) refl)
none_told d F kind p a o (Widen s e) g r = (none_told d F kind p a o e g r.0, never_told d F kind p o (Widen s _) refl)
none_told d F kind p a o (Round mode s e) g r = (none_told d F kind p a o e g r.0, never_told d F kind p o (Round mode s _) refl)
none_told d F kind p a o (Div mode s x y) g r = (none_told d F kind p a o x g r.0, none_told d F kind p a o y g r.1, never_told d F kind p o (Div mode s _ _) refl)
none_told d F kind p a o (Acc body n first) g r =
    let o' = moved (pos 0 -ℤ pos n) o in
    told_cases (NoneIn (IsNoRedex d F kind) o) d F o (Acc body n first) (Acc (specialised d F None body) n (specialised d F o' first)) (λ f k e. literal_none d F kind p o k _) (λ u. (
      none_told d F kind p a o' first g r.0,
      none_told d F kind p a None body (range_after d body 0 first g ∷ g) r.1.0,
      elim u [
        | inl unknown ↦ steps_none d F kind p o (specialised d F None body) (specialised d F o' first) n (known_same d F o body first n a ∙ unknown)
        | inr none ↦ absurd (cc (has_no_kind d (Acc body n first) (range_kinds g) none.0 none.1 r.1.1))
      ],
    ))

pub none_told_in : (d : Declarations) (F : Environment) (kind : Redex) → IsToldKind kind → IsAdmitted d F → (o : Option ℤ) (c : Contract) (g : List Range) → IsSortedContract d c g → NoneInContract (IsNoRedex d F kind) o (specialised_in d F o c)
none_told_in d F kind p a o Zero g r = no_contract d F kind p o Zero
none_told_in d F kind p a o (Pay x y z) g r = no_contract d F kind p o (Pay x y z)
none_told_in d F kind p a o (Both x y) g r = (none_told_in d F kind p a o x g r.0, none_told_in d F kind p a o y g r.1, no_contract d F kind p o _)
none_told_in d F kind p a o (Scale e c) g r = (none_told d F kind p a o e g r.0, none_told_in d F kind p a o c g r.1, no_contract d F kind p o _)
none_told_in d F kind p a o (After n c) g r = (none_told_in d F kind p a (moved (pos (count_of n)) o) c g r.0, no_contract d F kind p o _)
none_told_in d F kind p a o (Let e c) g r = (none_told d F kind p a o e g r.0, none_told_in d F kind p a o c (range_of d e g ∷ g) r.1, no_contract d F kind p o _)
none_told_in d F kind p a o (Within e n x y) g r =
    (none_told d F kind p a None e g r.0, none_told_in d F kind p a None x g r.1, none_told_in d F kind p a (moved (pos (count_of n)) o) y g r.2, no_contract d F kind p o _)

pub special_leaves_none : SpecialisedLeavesNone
special_leaves_none d c F o kind p a sorts = reduced_by_structure d (specialised_in d F o c) F o kind (none_told_in d F kind p a o c [] ((rules_are_by_structure d c).0.0 sorts))
