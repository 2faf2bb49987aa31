-- The sort of a kind.
use Rattle.std.specs.Prelude.{Option, Some, None}
use Rattle.term_model.specs.declared.values.Kind.{Kind}
use Rattle.term_model.specs.declared.values.Kind.TheVariants.{Truth as TruthKind, Number as NumberKind}
use Rattle.time_types.specs.declared.observed_sorts.Sort.{Sort}
use Rattle.time_types.specs.declared.observed_sorts.Sort.TheVariants.{Truth, Number}

abbrev pub sort_of_kind : Kind → Sort
sort_of_kind TruthKind = Truth
sort_of_kind (NumberKind s) = Number

abbrev pub sort_of : Option Kind → Option Sort
sort_of None = None
sort_of (Some k) = Some (sort_of_kind k)
