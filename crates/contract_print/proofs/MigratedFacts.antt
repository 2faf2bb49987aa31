-- A portfolio can be spelled in version 2 as it is, and declarations in version 1 with one number of decimals.
use Rattle.std.proofs.Common.{◌≡◌, ◌∙◌, ℕ, true, List, [], ◌∷◌, refl, ap, arith}
use Rattle.std.proofs.lemmas.Bool.Decides.{nat_tests}
use Rattle.std.proofs.lemmas.List.Elements.{All-weaker}
use Rattle.term_model.specs.Declarations.{Declarations}
use Rattle.term_model.specs.DayCounts.{Days}
use Rattle.term_model.specs.DayCounts.{Num as Count, Named, Sum}
use Rattle.term_model.specs.LawsDeclarations.{DeclareAsMany}
use Rattle.term_model.specs.Limits.{has_decimals, have_decimals}
use Rattle.term_model.specs.Terms.{Contract, Zero, Pay, Both, Scale, After, Let, Within}
use Rattle.term_model.specs.declared.name.Name.{Name}
use Rattle.term_model.proofs.FormedFacts.{one_form}
use Rattle.term_model.proofs.OneScaleFacts.{are_uniform, keys_stay}
use Rattle.contract_grammar.specs.Versions.{Version, One, Two, version_of}
use Rattle.contract_grammar.proofs.EntryFacts.{and_parts, both_true}
use Rattle.contract_print.specs.Migrated.{MigratedAreSpellable, in_version_two}
use Rattle.contract_print.specs.Laws.{OneScaleIsSpellable}
use Rattle.contract_print.specs.Spellable.{AreSpellable, ContractHasNumbersOfTexts, IsCountOfTexts, IsSpellable, are_names}

fewer : (v k n : ℕ) → has_decimals v k n ≡ true → has_decimals 2 k n ≡ true
fewer v k n h = grind (arith, nat_tests)

pub decimals_in_version_two : (v k : ℕ) (assets : List (Name × ℕ)) → have_decimals v k assets ≡ true → have_decimals 2 k assets ≡ true
decimals_in_version_two v k [] h = refl
decimals_in_version_two v k (asset ∷ assets) h =
    let p = and_parts (has_decimals v k asset.1) (have_decimals v k assets) h in
    both_true (has_decimals 2 k asset.1) (have_decimals 2 k assets) (fewer v k asset.1 p.0) (decimals_in_version_two v k assets p.1)

count_then : (v : Version) (n : Days) → IsCountOfTexts v n → IsCountOfTexts Two n
count_then v (Count n) h = h
count_then v (Named t) h = h
count_then One (Sum n ts) h = absurd h
count_then Two (Sum n ts) h = h

numbers_then : (v : Version) (c : Contract) → ContractHasNumbersOfTexts v c → ContractHasNumbersOfTexts Two c
numbers_then v Zero h = tt
numbers_then v (Pay a p q) h = tt
numbers_then v (Both a b) h = (numbers_then v a h.0, numbers_then v b h.1)
numbers_then v (Scale e c) h = (h.0, numbers_then v c h.1)
numbers_then v (After n c) h = (count_then v n h.0, numbers_then v c h.1)
numbers_then v (Let e c) h = (h.0, numbers_then v c h.1)
numbers_then v (Within e n a b) h = (h.0, count_then v n h.1, numbers_then v a h.2, numbers_then v b h.3)

as_many : (d : Declarations) → DeclareAsMany d (in_version_two d)
as_many d = record { parties = refl; assets = refl; labels = refl; templates = refl }

spellable_then : (d : Declarations) (c : Contract) → IsSpellable d c → IsSpellable (in_version_two d) c
spellable_then d c is = record {
  closed = one_form d (in_version_two d) (as_many d) 0 c is.closed;
  numbers = numbers_then (version_of d.version) c is.numbers;
  shallow = is.shallow;
}

declarations_then : (d : Declarations) → AreSpellable d → AreSpellable (in_version_two d)
declarations_then d fits = record {
  amounts = fits.amounts;
  origin = fits.origin;
  start = fits.start;
  parties = fits.parties;
  assets = fits.assets;
  version = refl;
  decimals = decimals_in_version_two d.version d.amounts d.assets fits.decimals;
  labels = fits.labels;
  templates = fits.templates;
  bounds = fits.bounds;
  days = fits.days;
}

pub migrated_spellable : MigratedAreSpellable
migrated_spellable b fits = record {
  declarations = declarations_then b.declarations fits.declarations;
  contracts = fits.contracts;
  each = All-weaker (λ entry. IsSpellable b.declarations entry.1) (λ entry. IsSpellable (in_version_two b.declarations) entry.1) (λ entry is. spellable_then b.declarations entry.1 is) b.contracts fits.each;
}

pub one_scale_spellable : OneScaleIsSpellable
one_scale_spellable d fits = record {
  amounts = fits.amounts;
  origin = fits.origin;
  start = fits.start;
  parties = fits.parties;
  assets = ap (λ (names : List Name). are_names names) (keys_stay d.amounts d.assets) ∙ fits.assets;
  version = refl;
  decimals = are_uniform d.amounts d.assets;
  labels = fits.labels;
  templates = fits.templates;
  bounds = fits.bounds;
  days = fits.days;
}
