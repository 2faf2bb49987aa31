-- The kind of what is either of two branches. Two truth values make one, and two numbers a number of the greater scale;
-- an accepted expression has no other two. With a truth value for one of them, the rest counts as a number.
use Rattle.std.specs.Prelude.{max}
use Rattle.term_model.specs.declared.values.Kind.{Kind}
use Rattle.term_model.specs.declared.values.Kind.TheVariants.{Truth, Number}
use Rattle.term_model.specs.Kinds.{scale_of_kind}

abbrev pub either : Kind → Kind → Kind
either Truth Truth = Truth
either a b = Number (max (scale_of_kind a) (scale_of_kind b))
