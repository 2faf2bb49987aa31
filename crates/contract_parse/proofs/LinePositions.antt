-- The line and the column of a position go on by one byte at a time.
use Rattle.std.proofs.Common.{◌≡◌, ◌+◌, ◌-◌, ◌<◌, ◌≤◌, ℕ, List, [], ◌∷◌, true, false, length, take, drop, get_or, length-drop, refl, sym, ap, subst, ◌∙◌, arith}
use Rattle.std.specs.Prelude.{◌==◌, not, reverse}
use Rattle.std.specs.List.{prefix_len}
use Rattle.std.proofs.lemmas.List.{get_or-drop, get_or-take, length-take, length-reverse, reverse-append, take_more}
use Rattle.std.proofs.lemmas.List.Sums.{count_by_more_no, count_by_more_yes, prefix_len-le-length}
use Rattle.std.proofs.lemmas.Bool.Decides.{nat_tests}
use Rattle.std.specs.Str.{IsCharBoundary, IsUtf8}
use Rattle.contract_parse.specs.Lines.{column_at, line_at}
use Rattle.contract_parse.specs.Cursors.{Fits, Position, position_of}

pub column_small : (bytes : List ℕ) (at : ℕ) → column_at bytes at ≤ 1 + at
column_small bytes at =
    omega (arith, prefix_len-le-length (λ b. not (b == 10)) (reverse (take at bytes)), length-reverse (take at bytes), length-take at bytes)

line_feed : (bytes : List ℕ) (at : ℕ) → at < length bytes → (get_or bytes at 0 == 10) ≡ true → line_at bytes (at + 1) ≡ line_at bytes at + 1
line_feed bytes at within feed = omega (arith, count_by_more_yes (λ b. b == 10) bytes at 0 within feed)

line_stays : (bytes : List ℕ) (at : ℕ) → at < length bytes → (get_or bytes at 0 == 10) ≡ false → line_at bytes (at + 1) ≡ line_at bytes at
line_stays bytes at within other = omega (arith, count_by_more_no (λ b. b == 10) bytes at 0 within other)

-- the bytes before the next position, the last one first
before_next : (bytes : List ℕ) (at : ℕ) → at < length bytes → reverse (take (at + 1) bytes) ≡ get_or bytes at 0 ∷ reverse (take at bytes)
before_next bytes at within = ap reverse (take_more bytes at 0 within) ∙ reverse-append (take at bytes) (get_or bytes at 0 ∷ [])

column_feed : (bytes : List ℕ) (at : ℕ) → at < length bytes → (get_or bytes at 0 == 10) ≡ true → column_at bytes (at + 1) ≡ 1
column_feed bytes at within feed =
    ap (λ (bs : List ℕ). 1 + prefix_len (λ b. not (b == 10)) bs) (before_next bytes at within) ∙ rw feed refl

column_more : (bytes : List ℕ) (at : ℕ) → at < length bytes → (get_or bytes at 0 == 10) ≡ false → column_at bytes (at + 1) ≡ column_at bytes at + 1
column_more bytes at within other =
    ap (λ (bs : List ℕ). 1 + prefix_len (λ b. not (b == 10)) bs) (before_next bytes at within) ∙ rw other (omega arith)

-- ---- the bytes between two positions

-- a byte of those, as the code and as the model name its position
record IsByte (bytes : List ℕ) (position byte : ℕ) : Type 0 where
  within : position < length bytes
  is : byte ≡ get_or bytes position 0

byte_of : (bytes : List ℕ) (here at to i : ℕ) → here ≡ at → i < length (take (to - here) (drop here bytes)) → IsByte bytes (at + i) (get_or (take (to - here) (drop here bytes)) i 0)
byte_of bytes here at to i same inside =
    let sizes = length-take (to - here) (drop here bytes) in
    let position : here + i ≡ at + i = omega (arith, same) in
    record {
      within = omega (arith, same, inside, sizes, length-drop here bytes);
      is = get_or-take (to - here) (drop here bytes) i 0 (omega (arith, inside, sizes)) ∙ get_or-drop here bytes i 0 ∙ ap (λ (n : ℕ). get_or bytes n 0) position;
    }

-- the line and the column of a position
pub record IsAt (bytes : List ℕ) (position new_line new_column : ℕ) : Type 0 where
  pub line : new_line ≡ line_at bytes position
  pub column : new_column ≡ column_at bytes position

is_ten : (b : ℕ) → b ≡ 10 → (b == 10) ≡ true
is_ten b e = grind (arith, nat_tests)

not_ten : (b : ℕ) → (b ≡ 10 → ⊥) → (b == 10) ≡ false
not_ten b n = grind (arith, nat_tests)

pub behind_feed : (bytes : List ℕ) (here at to i : ℕ) → here ≡ at → i < length (take (to - here) (drop here bytes)) → get_or (take (to - here) (drop here bytes)) i 0 ≡ 10 → IsAt bytes (at + (i + 1)) (line_at bytes (at + i) + 1) 1
behind_feed bytes here at to i same inside feed =
    let b = byte_of bytes here at to i same inside in
    let ten = is_ten (get_or bytes (at + i) 0) (sym b.is ∙ feed) in
    let position : at + i + 1 ≡ at + (i + 1) = omega arith in
    subst (λ (n : ℕ). IsAt bytes n (line_at bytes (at + i) + 1) 1) position (record { line = sym (line_feed bytes (at + i) b.within ten); column = sym (column_feed bytes (at + i) b.within ten) })

pub behind_other : (bytes : List ℕ) (here at to i : ℕ) → here ≡ at → i < length (take (to - here) (drop here bytes)) → (get_or (take (to - here) (drop here bytes)) i 0 ≡ 10 → ⊥) → IsAt bytes (at + (i + 1)) (line_at bytes (at + i)) (column_at bytes (at + i) + 1)
behind_other bytes here at to i same inside other =
    let b = byte_of bytes here at to i same inside in
    let no = not_ten (get_or bytes (at + i) 0) (λ e. other (b.is ∙ e)) in
    let position : at + i + 1 ≡ at + (i + 1) = omega arith in
    subst (λ (n : ℕ). IsAt bytes n (line_at bytes (at + i)) (column_at bytes (at + i) + 1)) position (record { line = sym (line_stays bytes (at + i) b.within no); column = sym (column_more bytes (at + i) b.within no) })

-- ---- a cursor at a boundary

pub fits_at : (bytes : List ℕ) (at : ℕ) (p : Position) → p ≡ position_of bytes at → IsUtf8 bytes → IsCharBoundary bytes at → Fits bytes p
fits_at bytes at p is utf8 boundary =
    let here : Fits bytes (position_of bytes at) = record { utf8 = utf8; boundary = boundary; position = refl } in
    subst (λ (q : Position). Fits bytes q) (sym is) here
