-- The scales on the way to the kind of an expression whose sorts are in order are at most 27.
use Rattle.std.specs.Prelude.{◌≤◌, List}
use Rattle.term_model.specs.Declarations.{Declarations}
use Rattle.term_model.specs.declared.values.Kind.{Kind}
use Rattle.term_model.specs.Terms.{Expression, Neg, Num, Cond, Acc}
use Rattle.term_model.specs.Kinds.{scale_of_kind, scale_of_op}
use Rattle.term_model.specs.Scales.{greatest_scale}
use Rattle.interval_check.specs.RangeTrials.{kind_found}

abbrev pub KindFits : Declarations → Expression → List Kind → Type 0
KindFits d (Neg e) ks = KindFits d e ks
KindFits d (Num op a b) ks =
    KindFits d a ks × KindFits d b ks
    × (scale_of_op op (scale_of_kind (kind_found d a ks)) (scale_of_kind (kind_found d b ks)) ≤ greatest_scale)
KindFits d (Cond t a b) ks = KindFits d a ks × KindFits d b ks
KindFits d (Acc body n first) ks = KindFits d first ks
KindFits d _ ks = Unit {0}
