-- Pieces that were appended one after another, and the part of them that stands where memory ran out.
use Rattle.std.proofs.Common.{◌≡◌, ◌∙◌, ℕ, zero, suc, ◌+◌, ◌<◌, List, [], ◌∷◌, ◌++◌, length, take, drop, get_or, ap, arith, sym, subst}
use Rattle.std.specs.List.{flat_map}
use Rattle.std.proofs.lemmas.Grind.{flat_map-append}
use Rattle.std.proofs.lemmas.List.{take-append-drop, drop_more}
use Rattle.report.specs.Pieces.{AreWritable, IsWritable}
use Rattle.report.specs.declared.pieces.Piece.{Piece}
use Rattle.decimal.specs.Appending.{AppendsPart}
use Rattle.decimal.proofs.AppendingFacts.{appends_front, appends_then}

all_text : {A : Type 0} (f : A → List ℕ) (xs : List A) (i : ℕ) (d : A) → i < length xs → flat_map f xs ≡ flat_map f (take i xs) ++ (f (get_or xs i d) ++ flat_map f (drop (i + 1) xs))
all_text f xs i d h =
    ap (λ ys. flat_map f ys) (sym (take-append-drop i xs))
    ∙ flat_map-append f (take i xs) (drop i xs)
    ∙ ap (λ ys. flat_map f (take i xs) ++ flat_map f ys) (drop_more xs i d h)

-- it stopped in a piece behind others that stand whole
pub stopped_in : {A : Type 0} (f : A → List ℕ) (xs : List A) (i : ℕ) (d : A) (old mid new : List ℕ) → i < length xs → mid ≡ old ++ flat_map f (take i xs) → AppendsPart mid (f (get_or xs i d)) new → AppendsPart old (flat_map f xs) new
stopped_in f xs i d old mid new h is part =
    subst (λ text. AppendsPart old text new) (sym (all_text f xs i d h)) (appends_then old (flat_map f (take i xs)) (f (get_or xs i d) ++ flat_map f (drop (i + 1) xs)) mid new is (appends_front mid (f (get_or xs i d)) (flat_map f (drop (i + 1) xs)) new part))

pub each_writable : (ps : List Piece) (i : ℕ) (d : Piece) → i < length ps → AreWritable ps → IsWritable (get_or ps i d)
each_writable [] i d h w = absurd (let no : i < 0 = h in omega arith)
each_writable (p ∷ ps) zero d h w = w.0
each_writable (p ∷ ps) (suc i) d h w = each_writable ps i d (omega arith) w.1
