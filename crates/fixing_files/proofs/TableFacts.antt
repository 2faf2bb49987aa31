-- Records of a table that goes on: what holds of a record in the front part holds in the whole.
use Rattle.std.proofs.Common.{◌≡◌, ◌∙◌, inl, inr, ℕ, zero, suc, ◌+◌, ◌≤◌, ◌<◌, [], ◌∷◌, ◌++◌, length, Some, slice_get, refl, sym, arith, add-one}
use Rattle.std.proofs.lemmas.Option.{slice_get_within}
use Rattle.term_model.specs.Declarations.{Declarations}
use Rattle.term_model.specs.Environments.{Place}
use Rattle.term_model.specs.declared.values.Value.{Value}
use Rattle.fixing_files.specs.Records.{Fields}
use Rattle.fixing_files.specs.Tables.{Table, record_at, StandsAt, Says, IsFirstAt, Conflicts, Breaks}
use Rattle.fixing_files.specs.declared.faults.RowKind.{RowKind}

pub get_front : (t more : Table) (i : ℕ) → i < length t → slice_get (t ++ more) i ≡ slice_get t i
get_front [] more i h = absurd (omega (arith, h))
get_front (r ∷ t) more zero h = refl
get_front (r ∷ t) more (suc i) h = get_front t more i (omega (arith, h))

get_seam : (t : Table) (r : Fields) (more : Table) → slice_get (t ++ r ∷ more) (length t) ≡ Some r
get_seam [] r more = refl
get_seam (x ∷ t) r more = get_seam t r more

pub record_front : (t more : Table) (n : ℕ) → n ≤ length t → record_at (t ++ more) n ≡ record_at t n
record_front t more zero h = refl
record_front t more (suc i) h = get_front t more i (omega (arith, h))

pub record_seam : (t : Table) (r : Fields) (more : Table) → record_at (t ++ r ∷ more) (length t + 1) ≡ Some r
record_seam t r more = rw (add-one (length t)) (get_seam t r more)

pub record_within : (t : Table) (n : ℕ) (f : Fields) → record_at t n ≡ Some f → n ≤ length t
record_within t zero f h = omega arith
record_within t (suc i) f h = omega (arith, slice_get_within t i f h)

module _ (t more : Table) where
  stands_on : (n : ℕ) (f : Fields) → StandsAt t n f → StandsAt (t ++ more) n f
  stands_on n f h = record { below_header = h.below_header; stands = record_front t more n (record_within t n f h.stands) ∙ h.stands }

  stands_back : (n : ℕ) (f : Fields) → StandsAt (t ++ more) n f → n ≤ length t → StandsAt t n f
  stands_back n f h within = record { below_header = h.below_header; stands = sym (record_front t more n within) ∙ h.stands }

module _ (d : Declarations) (t more : Table) where
  pub says_on : (n : ℕ) (q : Place) (v : Value) → Says d t n q v → Says d (t ++ more) n q v
  says_on n q v h = record { fields = h.fields; at = stands_on t more n h.fields h.at; meaning = h.meaning }

  pub says_back : (n : ℕ) (q : Place) (v : Value) → Says d (t ++ more) n q v → n ≤ length t → Says d t n q v
  says_back n q v h within = record { fields = h.fields; at = stands_back t more n h.fields h.at within; meaning = h.meaning }

  first_back : (q : Place) (e : ℕ) → IsFirstAt d (t ++ more) q e → e ≤ length t → IsFirstAt d t q e
  first_back q e h within =
      record { value = h.value; says = says_back e q h.value h.says within; first = λ n w s. h.first n w (says_on n q w s) }

  conflict_back : (n e : ℕ) → Conflicts d (t ++ more) n e → n ≤ length t → Conflicts d t n e
  conflict_back n e h within =
      record {
        place = h.place;
        value = h.value;
        other = h.other;
        earlier = h.earlier;
        says = says_back n h.place h.value h.says within;
        says_other = says_back h.earlier h.place h.other h.says_other (omega (arith, h.before));
        before = h.before;
        another = h.another;
        first = first_back h.place e h.first (omega (arith, h.first.first n h.value h.says));
      }

  -- what breaks a rule in the front part breaks it in the front part alone
  pub breaks_back : (n : ℕ) (k : RowKind) → Breaks d (t ++ more) n k → n ≤ length t → Breaks d t n k
  breaks_back n k (inl h) within =
      inl (record { number = h.number; kind = h.kind; other = λ e. h.other (record_front t more 1 (omega (arith, h.number)) ∙ e) })
  breaks_back n k (inr (inl h)) within =
      inr (inl (record { fields = h.fields; at = stands_back t more n h.fields h.at within; meaning = h.meaning }))
  breaks_back n k (inr (inr h)) within = inr (inr (h.0, h.1, conflict_back n h.0 h.2 within))
