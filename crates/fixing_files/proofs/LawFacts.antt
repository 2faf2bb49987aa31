-- A table has one answer, and what it holds is declared.
use Rattle.std.proofs.Common.{◌≡◌, ◌∙◌, inl, inr, ℕ, ℤ, pos, neg_ℤ, ◌≤ℤ◌, ◌<◌, ◌&&◌, Bool, true, false, if◌then◌else◌, List, [], ◌∷◌, length, Option, Some, None, Result, Ok, Err, refl, sym, ap, ap₂, subst, arith}
use Rattle.std.specs.Prelude.{codes, int_le}
use Rattle.std.specs.Map.{keys_of}
use Rattle.std.specs.Str.{bytes_eq}
use Rattle.std.proofs.lemmas.Bool.{and_parts, cases_Bool}
use Rattle.std.proofs.lemmas.Int.{ints}
use Rattle.std.proofs.lemmas.List.Quantifiers.{position-Some}
use Rattle.std.proofs.lemmas.Map.Entries.{length-keys_of}
use Rattle.decimal.specs.Mantissas.{decimal_of}
use Rattle.term_model.specs.Declarations.{Declarations}
use Rattle.term_model.specs.Environments.{Place, Environment, IsAdmitted, IsValueOf, held, label_of}
use Rattle.term_model.specs.declared.label.Label.{Label}
use Rattle.term_model.specs.declared.label.Label.TheVariants.{Number, Flag}
use Rattle.term_model.specs.declared.values.Value.{Value}
use Rattle.term_model.specs.declared.values.Value.TheVariants.{Num as Amount, Truth}
use Rattle.fixing_files.specs.Days.{day_of}
use Rattle.fixing_files.specs.Records.{Fields, IsFixingDay, day_or_none, day_said, label_named, mantissa_at, placed, said, said_at, value_said, within_bounds, within_days}
use Rattle.fixing_files.specs.Tables.{Table, StandsAt, Says, IsFirstAt, BreaksAlone, Breaks, Holds, IsPlaced}
use Rattle.fixing_files.specs.Laws.{FaultsAreUnique, FaultyTablesHoldNothing, TablesHoldOneMap}
use Rattle.fixing_files.specs.declared.days.DayFault.{DayFault}
use Rattle.fixing_files.specs.declared.faults.RowKind.{RowKind}
use Rattle.fixing_files.specs.declared.faults.RowKind.TheVariants as kind

-- one record has one meaning

pub one_pair : (a b : Place × Value) → ◌≡◌ {A = Result (Place × Value) RowKind} (Ok a) (Ok b) → (a.0 ≡ b.0) × (a.1 ≡ b.1)
one_pair a b e = let same : a ≡ b = cc in (ap (λ (x : Place × Value). x.0) same, ap (λ (x : Place × Value). x.1) same)

pub one_kind : (k l : RowKind) → ◌≡◌ {A = Result (Place × Value) RowKind} (Err k) (Err l) → k ≡ l
one_kind k l e = cc

pub same_fields : (t : Table) (n : ℕ) (f g : Fields) → StandsAt t n f → StandsAt t n g → f ≡ g
same_fields t n f g h i = let e = sym h.stands ∙ i.stands in cc

pub same_saying : (d : Declarations) (t : Table) (n : ℕ) (q p : Place) (v w : Value) → Says d t n q v → Says d t n p w → (q ≡ p) × (v ≡ w)
same_saying d t n q p v w s u =
    let same = same_fields t n s.fields u.fields s.at u.at in
    one_pair (q, v) (p, w) (sym s.meaning ∙ ap (said d) same ∙ u.meaning)

not_both : (d : Declarations) (t : Table) (n : ℕ) (q : Place) (v : Value) (k : RowKind) → Says d t n q v → BreaksAlone d t n k → ⊥
not_both d t n q v k s b =
    let same = same_fields t n s.fields b.fields s.at b.at in
    let wrong : ◌≡◌ {A = Result (Place × Value) RowKind} (Ok (q, v)) (Err k) = sym s.meaning ∙ ap (said d) same ∙ b.meaning in
    absurd (cc)

same_first : (d : Declarations) (t : Table) (q : Place) (e f : ℕ) → IsFirstAt d t q e → IsFirstAt d t q f → e ≡ f
same_first d t q e f one other = omega (arith, one.first f other.value other.says, other.first e one.value one.says)

same_kind : (d : Declarations) (t : Table) (n : ℕ) (k l : RowKind) → Breaks d t n k → Breaks d t n l → k ≡ l
same_kind d t n k l (inl b) (inl c) = b.kind ∙ sym c.kind
same_kind d t n k l (inl b) (inr (inl c)) = absurd (omega (arith, b.number, c.at.below_header))
same_kind d t n k l (inl b) (inr (inr c)) = absurd (omega (arith, b.number, c.2.says.at.below_header))
same_kind d t n k l (inr (inl b)) (inl c) = absurd (omega (arith, c.number, b.at.below_header))
same_kind d t n k l (inr (inl b)) (inr (inl c)) =
    let same = same_fields t n b.fields c.fields b.at c.at in
    one_kind k l (sym b.meaning ∙ ap (said d) same ∙ c.meaning)
same_kind d t n k l (inr (inl b)) (inr (inr c)) = absurd (not_both d t n c.2.place c.2.value k c.2.says b)
same_kind d t n k l (inr (inr b)) (inl c) = absurd (omega (arith, c.number, b.2.says.at.below_header))
same_kind d t n k l (inr (inr b)) (inr (inl c)) = absurd (not_both d t n b.2.place b.2.value l b.2.says c)
same_kind d t n k l (inr (inr b)) (inr (inr c)) =
    let here = (same_saying d t n b.2.place c.2.place b.2.value c.2.value b.2.says c.2.says).0 in
    let one = same_first d t c.2.place b.0 c.0 (subst (λ (q : Place). IsFirstAt d t q b.0) here b.2.first) c.2.first in
    b.1 ∙ ap (λ (e : ℕ). kind.Conflict e) one ∙ sym c.1

pub faults_unique : FaultsAreUnique
faults_unique d t one other h i =
    let row : one.row ≡ other.row = omega (arith, h.first other.row other.kind i.breaks, i.first one.row one.kind h.breaks) in
    let kinds = same_kind d t other.row one.kind other.kind (subst (λ (n : ℕ). Breaks d t n one.kind) row h.breaks) i.breaks in
    ap₂ (λ (n : ℕ) (k : RowKind). record { row = n; kind = k }) row kinds

pub faulty_hold_nothing : FaultyTablesHoldNothing
faulty_hold_nothing d t fault env h holds = holds.sound fault.row fault.kind h.breaks

same_held : (o p : Option Value) → ((v : Value) → o ≡ Some v → p ≡ Some v) → ((v : Value) → p ≡ Some v → o ≡ Some v) → o ≡ p
same_held None None f g = refl
same_held None (Some v) f g = g v refl
same_held (Some v) p f g = sym (f v refl)

pub one_map : TablesHoldOneMap
one_map d t one other h i q =
    same_held (held one q) (held other q) (λ v e. (i.holds q v).1 ((h.holds q v).0 e)) (λ v e. (h.holds q v).1 ((i.holds q v).0 e))

-- what a record says is of a declared label, on a day within the limits, and within the label's declaration

pub record IsSound (d : Declarations) (q : Place) (v : Value) : Type 0 where
  pub label : q.label < length d.labels
  pub day : IsFixingDay q.day
  pub value : IsValueOf (label_of d q.label) v

le_from : (a b : ℤ) → int_le a b ≡ true → a ≤ℤ b
le_from a b h = grind (arith, ints)

day_in : (t s : ℤ) → within_days t ≡ Some s → IsFixingDay s
day_in t s h = elim (cases_Bool (int_le (neg_ℤ (pos 3_000_000)) t && int_le t (pos 3_000_000))) [
  | inl is ↦
      let one : ◌≡◌ {A = Option ℤ} (Some t) (Some s) = rw is at h in
      let same : t ≡ s = cc in
      let parts = and_parts (int_le (neg_ℤ (pos 3_000_000)) t) (int_le t (pos 3_000_000)) is in
      subst IsFixingDay same (le_from (neg_ℤ (pos 3_000_000)) t parts.0, le_from t (pos 3_000_000) parts.1)
  | inr other ↦ let wrong : ◌≡◌ {A = Option ℤ} None (Some s) = rw other at h in absurd (cc)
]

day_from : (r : Result ℤ DayFault) (s : ℤ) → day_or_none r ≡ Some s → IsFixingDay s
day_from (Ok t) s h = day_in t s h
day_from (Err fault) s h = absurd (cc)

bounds_in : (low high : ℤ) (scale : ℕ) (o : Option ℤ) (v : Value) → within_bounds low high o ≡ Ok v → IsValueOf (Some (Number scale low high)) v
bounds_in low high scale None v h = absurd (cc)
bounds_in low high scale (Some m) v h = elim (cases_Bool (int_le low m && int_le m high)) [
  | inl is ↦
      let one : ◌≡◌ {A = Result Value RowKind} (Ok (Amount m)) (Ok v) = rw is at h in
      let same : Amount m ≡ v = cc in
      let parts = and_parts (int_le low m) (int_le m high) is in
      subst (λ (x : Value). IsValueOf (Some (Number scale low high)) x) same (le_from low m parts.0, le_from m high parts.1)
  | inr other ↦ let wrong : ◌≡◌ {A = Result Value RowKind} (Err kind.Bounds) (Ok v) = rw other at h in absurd (cc)
]

truth_in : (b c : Bool) (v : Value) → (if b then Ok (Truth true) else if c then Ok (Truth false) else Err kind.Value) ≡ Ok v → IsValueOf (Some Flag) v
truth_in true c v h = let same : Truth true ≡ v = cc in subst (λ (x : Value). IsValueOf (Some Flag) x) same (tt {0})
truth_in false true v h = let same : Truth false ≡ v = cc in subst (λ (x : Value). IsValueOf (Some Flag) x) same (tt {0})
truth_in false false v h = absurd (cc)

value_in_label : (o : Option Label) (text : List ℕ) (v : Value) → value_said o text ≡ Ok v → IsValueOf o v
value_in_label None text v h = absurd (cc)
value_in_label (Some Flag) text v h = truth_in (bytes_eq text (codes "true")) (bytes_eq text (codes "false")) v h
value_in_label (Some (Number scale low high)) text v h = bounds_in low high scale (mantissa_at scale (decimal_of text)) v h

placed_is : (p q : Place) (r : Result Value RowKind) (v : Value) → placed p r ≡ Ok (q, v) → (p ≡ q) × (r ≡ Ok v)
placed_is p q (Ok w) v h = let pair = one_pair (p, w) (q, v) h in (pair.0, ap (λ (x : Value). Ok x) pair.1)
placed_is p q (Err k) v h = absurd (cc)

label_in : (d : Declarations) (name : List ℕ) (l : ℕ) → label_named d name ≡ Some l → l < length d.labels
label_in d name l h = omega (arith, (position-Some (λ declared. bytes_eq name declared) (keys_of d.labels) l [] h).0, length-keys_of d.labels)

sound_at : (d : Declarations) (o : Option ℕ) (s : Option ℤ) (text : List ℕ) (q : Place) (v : Value) → ((l : ℕ) → o ≡ Some l → l < length d.labels) → ((t : ℤ) → s ≡ Some t → IsFixingDay t)
    → said_at d o s text ≡ Ok (q, v) → IsSound d q v
sound_at d None s text q v label day h = absurd (cc)
sound_at d (Some l) None text q v label day h = absurd (cc)
sound_at d (Some l) (Some t) text q v label day h =
    let p : Place = record { label = l; day = t } in
    let parts = placed_is p q (value_said (label_of d l) text) v h in
    subst (λ (x : Place). IsSound d x v) parts.0 (record { label = label l refl; day = day t refl; value = value_in_label (label_of d l) text v parts.1 })

pub said_sound : (d : Declarations) (fields : Fields) (q : Place) (v : Value) → said d fields ≡ Ok (q, v) → IsSound d q v
unfolding said
said_sound d [] q v h = absurd (cc)
said_sound d (a ∷ []) q v h = absurd (cc)
said_sound d (a ∷ b ∷ []) q v h = absurd (cc)
said_sound d (name ∷ day ∷ value ∷ []) q v h =
    sound_at d (label_named d name) (day_said d.origin day) value q v (λ l e. label_in d name l e) (λ t e. day_from (day_of d.origin day) t e) h
said_sound d (a ∷ b ∷ c ∷ e ∷ more) q v h = absurd (cc)

pub holds_admitted : (d : Declarations) (t : Table) (env : Environment) → Holds d t env → IsAdmitted d env
holds_admitted d t env h q v e = let s = (h.holds q v).0 e in (said_sound d s.1.fields q v s.1.meaning).value

pub holds_placed : (d : Declarations) (t : Table) (env : Environment) → Holds d t env → IsPlaced d env
holds_placed d t env h q v e = let s = (h.holds q v).0 e in let sound = said_sound d s.1.fields q v s.1.meaning in (sound.label, sound.day)
