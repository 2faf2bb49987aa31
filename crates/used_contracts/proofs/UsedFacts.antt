-- The contracts that a command uses: one after another from the portfolio's, no more than it has, and each can be tried; and the
-- numbers that stand in place of the names of templates are small.
use Rattle.std.proofs.Common.{◌≡◌, ◌≤◌, ◌<◌, ◌^◌, ℕ, zero, suc, Bool, true, false, cond, List, [], ◌∷◌, map, length, nat_le, leb-true, arith, refl, subst, sym, ap}
use Rattle.std.specs.Prelude.{All, Option, None}
use Rattle.std.specs.List.{filter, sum_by}
use Rattle.std.proofs.lemmas.Bool.{and_parts}
use Rattle.std.proofs.lemmas.List.Sums.{sum_by-cons}
use Rattle.std.proofs.lemmas.List.Elements.{All-cons, All-nil}
use Rattle.std.specs.Map.{keys_of}
use Rattle.term_model.specs.declared.name.Name.{Name}
use Rattle.term_model.specs.Books.{Book}
use Rattle.term_model.specs.DayCounts.{Days, Named, Num as Count, Sum}
use Rattle.term_model.specs.Declarations.{Declarations}
use Rattle.term_model.specs.Terms.{Contract, Zero, Pay, Both, Scale, After, Let, Within}
use Rattle.term_model.specs.Sizes.{height_of_contract, nodes_of_contract}
use Rattle.term_model.specs.WellFormed.{HasOnlyNumbers, IsNumber}
use Rattle.term_model.specs.Instances.{HasNumbers, IsSetting, declared_numbers, instance, with_number}
use Rattle.term_model.specs.Limits.{are_numbers, longest_file}
use Rattle.term_model.proofs.InstanceFacts.{defaults_suit, instances_have_numbers, instances_well_formed, settings_suit}
use Rattle.term_model.specs.Sites.{EachDay}
use Rattle.term_model.specs.Bounds.{aligned_total}
use Rattle.term_model.specs.Acceptance.{IsAccepted}
use Rattle.contract_parse.specs.NextContracts.{IsSoundContract}
use Rattle.contract_grammar.specs.Texts.{Text}
use Rattle.contract_grammar.proofs.TextClosed.{contracts_closed, contracts_small}
use Rattle.contract_grammar.proofs.TextSizes.{nodes_fit}
use Rattle.interval_check.specs.Nodes.{IsBoundedPart}
use Rattle.interval_check.proofs.ContractSafeFacts.{contract_at_root, total_fits}
use Rattle.interval_check.proofs.RuleFacts.{bounds_hold}
use Rattle.used_contracts.specs.UsedContracts.{at_defaults, is_asked}
use Rattle.used_contracts.specs.UsedParts.{IsTriable}

-- ---- an instance

same_number : (xs : List ℕ) (n : Days) → IsNumber n → with_number xs n ≡ n
same_number xs (Count n) h = refl
same_number xs (Named t) h = absurd h
same_number xs (Sum n ts) h = absurd h

-- what names no template is its own instance
pub own_instance : (xs : List ℕ) (c : Contract) → HasOnlyNumbers c → instance xs c ≡ c
own_instance xs Zero h = refl
own_instance xs (Pay a p q) h = refl
own_instance xs (Both a b) h = rw (own_instance xs a h.0, own_instance xs b h.1) refl
own_instance xs (Scale e c) h = rw (own_instance xs c h) refl
own_instance xs (After n c) h = rw (same_number xs n h.0, own_instance xs c h.1) refl
own_instance xs (Let e c) h = rw (own_instance xs c h) refl
own_instance xs (Within e n a b) h = rw (same_number xs n h.0, own_instance xs a h.1, own_instance xs b h.2) refl

-- a contract at the defaults is as high and as large
instance_height : (xs : List ℕ) (c : Contract) → height_of_contract (instance xs c) ≡ height_of_contract c
instance_height xs Zero = refl
instance_height xs (Pay a p q) = refl
instance_height xs (Both a b) = rw (instance_height xs a, instance_height xs b) refl
instance_height xs (Scale e c) = rw (instance_height xs c) refl
instance_height xs (After n c) = rw (instance_height xs c) refl
instance_height xs (Let e c) = rw (instance_height xs c) refl
instance_height xs (Within e n a b) = rw (instance_height xs a, instance_height xs b) refl

instance_nodes : (xs : List ℕ) (c : Contract) → nodes_of_contract (instance xs c) ≡ nodes_of_contract c
instance_nodes xs Zero = refl
instance_nodes xs (Pay a p q) = refl
instance_nodes xs (Both a b) = rw (instance_nodes xs a, instance_nodes xs b) refl
instance_nodes xs (Scale e c) = rw (instance_nodes xs c) refl
instance_nodes xs (After n c) = rw (instance_nodes xs c) refl
instance_nodes xs (Let e c) = rw (instance_nodes xs c) refl
instance_nodes xs (Within e n a b) = rw (instance_nodes xs a, instance_nodes xs b) refl

pub numbers_given : (d : Declarations) (c : Contract) → IsSoundContract d c → HasNumbers (declared_numbers d) c
numbers_given d c s = settings_suit d 0 (declared_numbers d) c s.closed (defaults_suit d)

numbers_small : (entries : List (Name × ℕ)) → are_numbers entries ≡ true → IsSetting (map (λ entry. entry.1) entries)
numbers_small [] h t = omega arith
numbers_small (e ∷ es) h zero = leb-true e.1 100_000 (and_parts (nat_le e.1 100_000) (are_numbers es) h).0
numbers_small (e ∷ es) h (suc t) = numbers_small es (and_parts (nat_le e.1 100_000) (are_numbers es) h).1 t

-- the defaults are a setting, where the templates keep to their limits
pub defaults_small : (d : Declarations) (numbers : List ℕ) → are_numbers d.templates ≡ true → numbers ≡ declared_numbers d → IsSetting numbers
defaults_small d numbers h same = subst IsSetting (sym same) (numbers_small d.templates h)

pub triable : (d : Declarations) (c : Contract) → IsSoundContract d c → IsTriable d (instance (declared_numbers d) c)
triable d c s =
    let xs = declared_numbers d in
    record {
      closed = instances_well_formed d 0 xs c s.closed;
      numbers = instances_have_numbers xs c;
      low = omega (arith, instance_height xs c, s.low);
      small = subst (λ (n : ℕ). n < 2 ^ 32) (sym (instance_nodes xs c)) s.small;
    }

-- ---- one contract after another

abbrev pub used_of : Option (List ℕ) → Declarations → List (Name × Contract) → List (Name × Contract)
used_of only d xs = map (at_defaults d) (filter (λ entry. is_asked only entry.0) xs)

by_test : {A : Type 0} (f : Name × Contract → A) (b : Bool) (x : Name × Contract) (xs : List (Name × Contract)) → b ≡ true → map f (cond b (x ∷ xs) xs) ≡ f x ∷ map f xs
by_test f true x xs h = refl
by_test f false x xs h = absurd cc

by_no : {A : Type 0} (f : Name × Contract → A) (b : Bool) (x : Name × Contract) (xs : List (Name × Contract)) → b ≡ false → map f (cond b (x ∷ xs) xs) ≡ map f xs
by_no f true x xs h = absurd cc
by_no f false x xs h = refl

pub taken : (only : Option (List ℕ)) (d : Declarations) (x : Name × Contract) (xs : List (Name × Contract)) → is_asked only x.0 ≡ true → used_of only d (x ∷ xs) ≡ at_defaults d x ∷ used_of only d xs
taken only d x xs h = by_test (at_defaults d) (is_asked only x.0) x (filter (λ entry. is_asked only entry.0) xs) h

pub passed_over : (only : Option (List ℕ)) (d : Declarations) (x : Name × Contract) (xs : List (Name × Contract)) → is_asked only x.0 ≡ false → used_of only d (x ∷ xs) ≡ used_of only d xs
passed_over only d x xs h = by_no (at_defaults d) (is_asked only x.0) x (filter (λ entry. is_asked only entry.0) xs) h

by_length : (b : Bool) (x : Name × Contract) (xs : List (Name × Contract)) (d : Declarations) (n : ℕ) → length (map (at_defaults d) xs) ≤ n → length (map (at_defaults d) (cond b (x ∷ xs) xs)) ≤ suc n
by_length true x xs d n h = omega arith
by_length false x xs d n h = omega arith

pub used_few : (only : Option (List ℕ)) (d : Declarations) (xs : List (Name × Contract)) → length (used_of only d xs) ≤ length xs
used_few only d [] = omega arith
used_few only d (x ∷ xs) = by_length (is_asked only x.0) x (filter (λ entry. is_asked only entry.0) xs) d (length xs) (used_few only d xs)

-- ---- the contracts of a text are sound and few

each_at_most : {A : Type 0} (f : A → ℕ) (xs : List A) (n : ℕ) → sum_by f xs ≤ n → All (λ x. f x ≤ n) xs
each_at_most f [] n h = All-nil (λ x. f x ≤ n)
each_at_most f (x ∷ xs) n h = All-cons (λ y. f y ≤ n) x xs (omega (arith, sum_by-cons f x xs)) (each_at_most f xs n (omega (arith, sum_by-cons f x xs)))

pub contracts_sound : (bytes : List ℕ) (b : Book) → Text bytes b → length bytes ≤ longest_file → All (λ entry. IsSoundContract b.declarations entry.1) b.contracts
contracts_sound bytes b text short = λ k entry within.
    let closed = contracts_closed bytes b text k entry within in
    let few = each_at_most (λ (e : Name × Contract). nodes_of_contract e.1) b.contracts (length bytes) (nodes_fit bytes b text) k entry within in
    record { closed = closed.0; low = closed.1; small = omega (arith, few, short); sums = contracts_small bytes b text k entry within }

some_nodes : (c : Contract) → 1 ≤ nodes_of_contract c
some_nodes Zero = omega arith
some_nodes (Pay a p q) = omega arith
some_nodes (Both a b) = omega arith
some_nodes (Scale e c) = omega arith
some_nodes (After n c) = omega arith
some_nodes (Let e c) = omega arith
some_nodes (Within e n a b) = omega arith

no_more_than_nodes : (xs : List (Name × Contract)) → length xs ≤ sum_by (λ entry. nodes_of_contract entry.1) xs
no_more_than_nodes [] = omega arith
no_more_than_nodes (x ∷ xs) = omega (arith, no_more_than_nodes xs, some_nodes x.1, sum_by-cons (λ (entry : Name × Contract). nodes_of_contract entry.1) x xs)

pub contracts_few : (bytes : List ℕ) (b : Book) → Text bytes b → length bytes ≤ longest_file → length b.contracts ≤ longest_file
contracts_few bytes b text short = omega (arith, no_more_than_nodes b.contracts, nodes_fit bytes b text, short)

pub total_small : (d : Declarations) (c : Contract) → IsAccepted d c → aligned_total d c [] ≤ 10 ^ 27
total_small d c a = (total_fits d c [] (contract_at_root (IsBoundedPart d) EachDay d c [] (bounds_hold d c a.bounds))).aligned

-- the contracts that are used have the names of the portfolio's
pub used_names : (d : Declarations) (entries : List (Name × Contract)) → keys_of (used_of None d entries) ≡ keys_of entries
used_names d [] = refl
used_names d (e ∷ es) = ap (λ (names : List Name). e.0 ∷ names) (used_names d es)
