-- Declarations by their contents: sets of names as lists in declared order, and maps as lists of pairs. The whole
-- model speaks of these.
use Rattle.std.specs.Prelude.{ℕ, ℤ, List, Option, Some, None, map, slice_get}
use Rattle.term_model.specs.declared.name.Name.{Name}
use Rattle.term_model.specs.declared.decls.Decls.{Decls}
use Rattle.term_model.specs.declared.label.Label.{Label}

-- The version is that of the texts in which they stand; an asset has a number of decimals, which in version 1 is that of
-- the amounts.
pub record Declarations : Type 0 where
  pub version : ℕ
  pub amounts : ℕ
  pub origin : Option ℤ
  pub start : ℕ
  pub parties : List Name
  pub assets : List (Name × ℕ)
  pub labels : List (Name × Label)
  pub templates : List (Name × ℕ)

-- what the program's declarations stand for
abbrev pub declarations : Decls → Declarations
declarations d =
    record {
      version = d.version;
      amounts = d.amounts;
      origin = d.origin;
      start = d.start;
      parties = d.parties.keys;
      assets = d.assets.entries;
      labels = d.labels.entries;
      templates = d.templates.entries;
    }

-- the decimals of a declared asset; an index that is not declared has those of the amounts
abbrev pub decimals_or : Option (Name × ℕ) → ℕ → ℕ
decimals_or None k = k
decimals_or (Some entry) k = entry.1

abbrev pub decimals_of : Declarations → ℕ → ℕ
decimals_of d a = decimals_or (slice_get d.assets a) d.amounts

-- the same in version 1, where each asset has the decimals of the amounts
abbrev pub at_one_scale : Declarations → Declarations
at_one_scale d = record d { version = 1; assets = map (λ entry. (entry.0, d.amounts)) d.assets }
