-- The rule on sorts: every expression is a number or a truth value, every factor is a number and every test is a truth
-- value.
use Rattle.std.specs.Prelude.{Bool, true, false, Option, Some, is_some}
use Rattle.term_model.specs.Declarations.{Declarations}
use Rattle.term_model.specs.declared.values.Kind.{Kind}
use Rattle.term_model.specs.declared.values.Kind.TheVariants.{Truth, Number}
use Rattle.term_model.specs.Terms.{Scale, Within}
use Rattle.term_model.specs.Kinds.{kind_of}
use Rattle.term_model.specs.Sites.{Site, Part, OfExpression, OfContract, kinds_round}

abbrev pub is_number : Option Kind → Bool
is_number (Some (Number s)) = true
is_number _ = false

abbrev pub is_truth : Option Kind → Bool
is_truth (Some Truth) = true
is_truth _ = false

-- a node, among names of these kinds
abbrev pub part_is_sorted : Declarations → Site → Part → Bool
part_is_sorted d s (OfExpression e) = is_some (kind_of d e (kinds_round d s.layers))
part_is_sorted d s (OfContract (Scale e c)) = is_number (kind_of d e (kinds_round d s.layers))
part_is_sorted d s (OfContract (Within e n a b)) = is_truth (kind_of d e (kinds_round d s.layers))
part_is_sorted d s (OfContract _) = true

abbrev pub is_sorted : Declarations → Site → Bool
is_sorted d s = part_is_sorted d s s.part
