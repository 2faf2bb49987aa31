-- Texts that are compared byte by byte.
use Rattle.std.proofs.Common.{◌≡◌, ◌<◌, ℕ, true, List, length, get_or, sym}
use Rattle.std.specs.Str.{bytes_eq}
use Rattle.std.proofs.lemmas.List.{ext_get_or}
use Rattle.std.proofs.lemmas.Slice.Eq.{bytes_eq-Decides}

pub same_texts : (xs ys : List ℕ) → length xs ≡ length ys → ((k : ℕ) → k < length xs → get_or xs k 0 ≡ get_or ys k 0) → true ≡ bytes_eq xs ys
same_texts xs ys long each = sym ((bytes_eq-Decides xs ys).1 (ext_get_or 0 xs ys long each))
