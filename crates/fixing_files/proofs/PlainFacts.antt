-- A row of bare words between commas is the first record of its text, as csv reads it.
use Rattle.std.proofs.Common.{◌≡◌, ◌∙◌, ◌⊎◌, inl, inr, ℕ, zero, suc, ◌+◌, ◌<◌, ◌==◌, ◌||◌, ℤ, Bool, true, false, List, [], ◌∷◌, ◌++◌, length, Option, Some, None, Ok, refl, sym, ap, subst, arith, add-one}
use Rattle.std.specs.Prelude.{codes, int_le, ◌≤ℤ◌, slice_get}
use Rattle.std.proofs.lemmas.Bool.{eqb-true}
use Rattle.std.proofs.lemmas.Int.{ints}
use Rattle.csv.specs.Machine.{Read, next_record}
use Rattle.csv.specs.Reading.{default_config, records_from, records_next}
use Rattle.csv.specs.Writing.{default_writer, needs_byte}
use Rattle.csv.specs.declared.parser.State.{State}
use Rattle.csv.specs.declared.parser.State.TheVariants as st
use Rattle.csv.proofs.RoundTrip.{plain-run, record-same, start-same}
use Rattle.term_model.specs.Declarations.{Declarations}
use Rattle.term_model.specs.Environments.{label_of}
use Rattle.term_model.specs.Limits.{is_label}
use Rattle.term_model.specs.declared.label.Label.{Label}
use Rattle.term_model.specs.declared.label.Label.TheVariants.{Number}
use Rattle.term_model.specs.declared.values.Value.{Value}
use Rattle.term_model.specs.declared.values.Value.TheVariants.{Num as Amount}
use Rattle.fixing_files.specs.PlainRows.{BeginsWithLabel, BeginsWithLast, BeginsWithRow, BeginsWithValue, EndsLine, HasPlainNames, rows_of}
use Rattle.fixing_files.specs.Records.{Fields, day_said, header, placed, said, said_at, value_said, within_bounds}
use Rattle.fixing_files.specs.Tables.{Table}
use Rattle.fixing_files.specs.Words.{BeginsWithDay, BeginsWithMantissa, IsBare}
use Rattle.fixing_files.proofs.ReachedFacts.{consumes, none_left}

-- bytes that call for no quotation marks

not_true : (x : Bool) → (x ≡ true → ⊥) → x ≡ false
not_true true n = absurd (n refl)
not_true false n = refl

left_false : (a b : Bool) → (a || b) ≡ false → a ≡ false
left_false false b e = refl
left_false true b e = cc e

-- neither a quotation mark nor the mark of a line
record IsInner (b : ℕ) : Type 0 where
  no_mark : (b == 34) ≡ false
  no_return : (b == 13) ≡ false
  no_feed : (b == 10) ≡ false

inner : (b : ℕ) → needs_byte default_writer b ≡ false → IsInner b
inner b e =
    let comma = not_true (b == 44) (λ t. cc (rw t at e)) in
    let mark = not_true (b == 34) (λ t. cc (rw (comma, t) at e)) in
    let cr = not_true (b == 13) (λ t. cc (rw (comma, mark, t) at e)) in
    let feed = not_true (b == 10) (λ t. cc (rw (comma, mark, cr, t) at e)) in
    record { no_mark = mark; no_return = cr; no_feed = feed }

first_of : (b : ℕ) (word : List ℕ) → IsBare (b ∷ word) → IsInner b
first_of b word h = inner b (left_false (needs_byte default_writer b) _ h.needs_none)

-- a word, from its start

-- what follows a word does not begin with a quotation mark
abbrev Follows : List ℕ → Type 0
Follows [] = Unit {0}
Follows (c ∷ rest) = (c == 34) ≡ false

word_run : (fields : Fields) (word after : List ℕ) → IsBare word → Follows after
    → next_record default_config st.StartField fields [] (word ++ after) ≡ next_record default_config st.InField fields word after
unfolding next_record
word_run fields [] [] bare f = refl
word_run fields [] (c ∷ after) bare f = start-same fields [] c after f
word_run fields (b ∷ word) after bare f =
    start-same fields [] b (word ++ after) (first_of b word bare).no_mark ∙ plain-run fields [] (b ∷ word) after bare.needs_none

comma_ends : (fields : Fields) (word after : List ℕ)
    → next_record default_config st.InField fields word (44 ∷ after) ≡ next_record default_config st.StartField (fields ++ word ∷ []) [] after
unfolding next_record
comma_ends fields word after = refl

first_starts : (word after : List ℕ) → IsBare word
    → next_record default_config st.StartRecord [] [] (word ++ 44 ∷ after) ≡ next_record default_config st.StartField [] [] (word ++ 44 ∷ after)
first_starts [] after bare = record-same [] [] 44 after refl refl
first_starts (b ∷ word) after bare =
    let h = first_of b word bare in
    record-same [] [] b (word ++ 44 ∷ after) h.no_return h.no_feed

-- the state and the bytes behind a record stand for the start of a record
abbrev StartsAgain : Read → List ℕ → Type 0
StartsAgain r rest = ((r.1 ≡ st.StartRecord) × (r.2 ≡ rest)) ⊎ ((r.1 ≡ st.AfterCr) × (r.2 ≡ 10 ∷ rest))

-- the first record of a text
record IsFirst (text : List ℕ) (fields : Fields) (rest : List ℕ) : Type 0 where
  read : Read
  found : next_record default_config st.StartRecord [] [] text ≡ Some read
  are : read.0 ≡ fields
  again : StartsAgain read rest

-- the end of the line ends the record
line_ends : (text : List ℕ) (fields : Fields) (word after rest : List ℕ)
    → next_record default_config st.StartRecord [] [] text ≡ next_record default_config st.InField fields word after
    → EndsLine after rest → IsFirst text (fields ++ word ∷ []) rest
unfolding next_record
line_ends text fields word after rest run (inl h) =
    record { read = (fields ++ word ∷ [], st.StartRecord, []); found = run ∙ rw h.0 refl; are = refl; again = inl (refl, sym h.1) }
line_ends text fields word after rest run (inr (inl h)) =
    record { read = (fields ++ word ∷ [], st.StartRecord, rest); found = run ∙ rw h refl; are = refl; again = inl (refl, refl) }
line_ends text fields word after rest run (inr (inr h)) =
    record { read = (fields ++ word ∷ [], st.AfterCr, 10 ∷ rest); found = run ∙ rw h refl; are = refl; again = inr (refl, refl) }

ending_follows : (after rest : List ℕ) → EndsLine after rest → Follows after
ending_follows after rest (inl h) = subst Follows (sym h.0) tt
ending_follows after rest (inr (inl h)) = subst Follows (sym h) refl
ending_follows after rest (inr (inr h)) = subst Follows (sym h) refl

-- three bare words
three_read : (text x y z after rest : List ℕ) → text ≡ x ++ 44 ∷ (y ++ 44 ∷ (z ++ after)) → IsBare x → IsBare y → IsBare z → EndsLine after rest
    → IsFirst text (x ∷ y ∷ z ∷ []) rest
three_read text x y z after rest split bx by bz ends =
    let last = z ++ after in
    let next = y ++ 44 ∷ last in
    let one = first_starts x next bx ∙ word_run [] x (44 ∷ next) bx refl ∙ comma_ends [] x next in
    let two = word_run (x ∷ []) y (44 ∷ last) by refl ∙ comma_ends (x ∷ []) y last in
    let three = word_run (x ∷ y ∷ []) z after bz (ending_follows after rest ends) in
    line_ends text (x ∷ y ∷ []) z after rest (ap (next_record default_config st.StartRecord [] []) split ∙ one ∙ two ∙ three) ends

header_read : (after rest : List ℕ) → EndsLine after rest → IsFirst (codes "label,day,value" ++ after) header rest
unfolding next_record
header_read after rest ends = line_ends (codes "label,day,value" ++ after) (codes "label" ∷ codes "day" ∷ []) (codes "value") after rest refl ends

-- the records behind the first

same_next : (o : Option Read) (f g : State → List ℕ → Table) → ((r : Read) → o ≡ Some r → f r.1 r.2 ≡ g r.1 r.2) → records_next f o ≡ records_next g o
same_next None f g h = refl
same_next (Some r) f g h = let rest = h r refl in λ i. r.0 ∷ rest i

same_records : (n m : ℕ) (s : State) (xs : List ℕ) → length xs < n → length xs < m → records_from default_config n s xs ≡ records_from default_config m s xs
unfolding records_from
same_records zero m s xs h k = absurd (omega arith)
same_records (suc n) zero s xs h k = absurd (omega arith)
same_records (suc n) (suc m) s xs h k =
    same_next (next_record default_config s [] [] xs) (records_from default_config n) (records_from default_config m) (λ r e. elim (consumes default_config s [] [] xs r e) [
      | inl shorter ↦ same_records n m r.1 r.2 (omega arith) (omega arith)
      | inr last ↦ rw (last.1, last.2) (none_left default_config n ∙ sym (none_left default_config m))
    ])

feed_skipped : (n : ℕ) (rest : List ℕ) → records_from default_config (suc n) st.AfterCr (10 ∷ rest) ≡ records_from default_config (suc n) st.StartRecord rest
unfolding records_from next_record
feed_skipped n rest = refl

rest_again : (n : ℕ) (r : Read) (rest : List ℕ) → length r.2 < n → StartsAgain r rest → records_from default_config n r.1 r.2 ≡ rows_of rest
rest_again n r rest h (inl e) =
    ap (λ (s : State). records_from default_config n s r.2) e.0 ∙ ap (records_from default_config n st.StartRecord) e.1
    ∙ same_records n (length rest + 1) st.StartRecord rest (omega (arith, ap length e.1)) (omega arith)
rest_again zero r rest h (inr e) = absurd (omega arith)
rest_again (suc n) r rest h (inr e) =
    ap (λ (s : State). records_from default_config (suc n) s r.2) e.0 ∙ ap (records_from default_config (suc n) st.AfterCr) e.1 ∙ feed_skipped n rest
    ∙ same_records (suc n) (length rest + 1) st.StartRecord rest (omega (arith, ap length e.1)) (omega arith)

nothing_first : (r : Read) → next_record default_config st.StartRecord [] [] [] ≡ Some r → ⊥
unfolding next_record
nothing_first r e = cc e

first_from : (n : ℕ) (text : List ℕ) (fields : Fields) (rest : List ℕ) (h : IsFirst text fields rest) → length h.read.2 < n
    → records_from default_config (suc n) st.StartRecord text ≡ fields ∷ rows_of rest
unfolding records_from
first_from n text fields rest h shorter =
    let behind = rest_again n h.read rest shorter h.again in
    rw h.found (λ i. h.are i ∷ behind i)

first_row : (text : List ℕ) (fields : Fields) (rest : List ℕ) → IsFirst text fields rest → rows_of text ≡ fields ∷ rows_of rest
first_row text fields rest h =
    let shorter : length h.read.2 < length text = elim (consumes default_config st.StartRecord [] [] text h.read h.found) [
      | inl less ↦ less
      | inr last ↦ absurd (nothing_first h.read (subst (λ (t : List ℕ). next_record default_config st.StartRecord [] [] t ≡ Some h.read) last.0 h.found))
    ] in
    ap (λ (k : ℕ). records_from default_config k st.StartRecord text) (add-one (length text)) ∙ first_from (length text) text fields rest h shorter

pub header_row : (text rest : List ℕ) → BeginsWithLast text (codes "label,day,value") rest → rows_of text ≡ header ∷ rows_of rest
header_row text rest h = first_row text header rest (subst (λ (t : List ℕ). IsFirst t header rest) (sym h.split) (header_read h.after rest h.ends))

-- what a row of a label, a day and a value says
pub row_begins : (d : Declarations) (text behind_label behind_day rest : List ℕ) (l : ℕ) (t : ℤ) (v : Value) (label : Label)
    → BeginsWithLabel d text l label behind_label → BeginsWithDay d.origin behind_label t behind_day → BeginsWithValue label behind_day v rest
    → BeginsWithRow d text (record { label = l; day = t }) v rest
unfolding said
row_begins d text behind_label behind_day rest l t v label a b c =
    let split =
    a.split ∙ ap (λ (r : List ℕ). a.name ++ 44 ∷ r) (b.split ∙ ap (λ (r : List ℕ). b.word ++ 44 ∷ r) c.last.split) in
    let value : value_said (label_of d l) c.word ≡ Ok v = ap (λ (o : Option Label). value_said o c.word) a.declared ∙ c.said in
    record {
      fields = a.name ∷ b.word ∷ c.word ∷ [];
      split = first_row text (a.name ∷ b.word ∷ c.word ∷ []) rest (three_read text a.name b.word c.word c.last.after rest split a.bare b.bare c.bare c.last.ends);
      meaning =
          ap (λ (o : Option ℕ). said_at d o (day_said d.origin b.word) c.word) a.number
          ∙ ap (λ (o : Option ℤ). said_at d (Some l) o c.word) b.said
          ∙ ap (placed (record { label = l; day = t })) value;
    }

-- the parts of a row

pub label_begins : (d : Declarations) (text name behind rest : List ℕ) (l : ℕ) (label : Label) → HasPlainNames d → slice_get d.labels l ≡ Some (name, label)
    → text ≡ name ++ behind → behind ≡ 44 ∷ rest → is_label label ≡ true → BeginsWithLabel d text l label rest
label_begins d text name behind rest l label plain entry split comma limits =
    let own = plain l name label entry in
    record {
      name = name;
      split = split ∙ ap (λ (r : List ℕ). name ++ r) comma;
      bare = own.0;
      number = own.1;
      declared = rw (entry, label_of) refl;
      limits = limits;
    }

pub number_begins : (scale : ℕ) (low high m : ℤ) (text behind rest : List ℕ) → BeginsWithMantissa scale text m behind → EndsLine behind rest → low ≤ℤ m → m ≤ℤ high
    → BeginsWithValue (Number scale low high) text (Amount m) rest
number_begins scale low high m text behind rest h ends above below =
    let first : int_le low m ≡ true = grind (arith, ints) in
    let second : int_le m high ≡ true = grind (arith, ints) in
    let inside : within_bounds low high (Some m) ≡ Ok (Amount m) = rw (first, second) refl in
    record {
      word = h.word;
      last = record { after = behind; split = h.split; ends = ends };
      bare = h.bare;
      said = ap (within_bounds low high) h.mantissa ∙ inside;
    }

-- the mark of a line

pub ends_at_once : (text : List ℕ) → (length text == 0) ≡ true → EndsLine text text
ends_at_once [] h = inl (refl, refl)
ends_at_once (b ∷ text) h = absurd (let none = eqb-true (length (b ∷ text)) 0 h in omega arith)

pub ends_by_feed : (text rest : List ℕ) → text ≡ 10 ∷ rest → EndsLine text rest
ends_by_feed text rest e = inr (inl e)

pub ends_by_both : (text line rest : List ℕ) → text ≡ 13 ∷ line → line ≡ 10 ∷ rest → EndsLine text rest
ends_by_both text line rest e f = inr (inr (e ∙ ap (λ (r : List ℕ). 13 ∷ r) f))
