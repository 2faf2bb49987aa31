-- The literal of what the fixings tell.
use Rattle.std.proofs.Common.{◌≡◌, ℤ, Bool, true, false, Option, Some, None, List, [], if◌then◌else◌, refl, ap, sym, ◌∙◌, inl, inr, ◌⊎◌}
use Rattle.std.specs.List.{list_all}
use Rattle.term_model.specs.Declarations.{Declarations}
use Rattle.term_model.specs.declared.values.Kind.{Kind}
use Rattle.term_model.specs.declared.values.Kind.TheVariants.{Truth as TruthKind, Number}
use Rattle.term_model.specs.declared.values.Value.{Value}
use Rattle.term_model.specs.declared.values.Value.TheVariants.{Num as Amount, Truth}
use Rattle.term_model.specs.Terms.{Expression}
use Rattle.term_model.specs.Environments.{Environment, Place, IsAdmitted}
use Rattle.term_model.specs.Kinds.{kind_of}
use Rattle.term_model.specs.Values.{Entry, value_of}
use Rattle.term_model.specs.LawsKinds.{IsOfKind}
use Rattle.term_model.specs.Reads.{reads_of, is_fixed}
use Rattle.term_model.specs.Redexes.{names_within, reads_are_fixed}
use Rattle.term_model.proofs.AlikeFacts.{and_left, and_right}
use Rattle.term_model.proofs.KindFacts.{values_have_kinds}
use Rattle.term_model.proofs.ReadFacts.{reads_alike}
use Rattle.term_model.proofs.ReadLawFacts.{extension_reads, no_names}
use Rattle.rewriting.specs.Replacing.{literal_of}
use Rattle.specialise.specs.Specialising.{is_known, literal_or, told, told_or}
use Rattle.specialise.specs.Specialised.{IsOn, MayCome}
use Rattle.specialise.proofs.ClosedFacts.{kind_among, value_among, agree_none, both_none}

-- an expression that is known: it is closed, its frame is a day on which all its reads are fixed, and it has a kind
pub record IsTold (d : Declarations) (fixings : Environment) (frame : Option ℤ) (e : Expression) (f : ℤ) (k : Kind) : Type 0 where
  pub on : frame ≡ Some f
  pub closed : names_within 0 e ≡ true
  pub fixed : list_all (is_fixed fixings) (reads_of d e [] [] fixings f) ≡ true
  pub kind : kind_of d e [] ≡ Some k

-- why an expression is not told: it is not known, or it is closed and has no kind
abbrev pub Untold : Declarations → Environment → Option ℤ → Expression → Type 0
Untold d fixings frame e = (is_known d fixings frame e ≡ false) ⊎ ((names_within 0 e ≡ true) × (kind_of d e [] ≡ None))

kind_cases : (P : Expression → Type 0) (o : Option Kind) (v : Value) (other : Expression) → ((k : Kind) → o ≡ Some k → P (literal_of k v)) → (o ≡ None → P other) → P (literal_or o v other)
kind_cases P (Some k) v other h n = h k refl
kind_cases P None v other h n = n refl

-- what is told, or the other
pub told_cases : (P : Expression → Type 0) (d : Declarations) (fixings : Environment) (frame : Option ℤ) (e other : Expression)
    → ((f : ℤ) (k : Kind) → IsTold d fixings frame e f k → P (literal_of k (value_of d e [] fixings f)))
    → (Untold d fixings frame e → P other) → P (told_or d fixings frame e other)
told_cases P d fixings frame e other one rest = at (is_known d fixings frame e) refl
  where
    known : (o : Option ℤ) → frame ≡ o → names_within 0 e ≡ true → reads_are_fixed d fixings o e ≡ true → P (told d fixings o e other)
    known None i closed fixed = absurd (cc)
    known (Some f) i closed fixed =
        kind_cases P (kind_of d e []) (value_of d e [] fixings f) other (λ k h. one f k (record { on = i; closed = closed; fixed = fixed; kind = h })) (λ h. rest (inr (closed, h)))

    at : (b : Bool) → is_known d fixings frame e ≡ b → P (if b then told d fixings frame e other else other)
    at true h = known frame refl (and_left _ _ h) (and_right (names_within 0 e) _ h)
    at false h = rest (inl h)

pub literal_kind : (d : Declarations) (k : Kind) (v : Value) (ks : List Kind) → kind_of d (literal_of k v) ks ≡ Some k
literal_kind d TruthKind v ks = refl
literal_kind d (Number s) v ks = refl

pub literal_value : (d : Declarations) (k : Kind) (v : Value) (g : List Entry) (env : Environment) (f : ℤ) → IsOfKind k v → value_of d (literal_of k v) g env f ≡ v
literal_value d TruthKind (Truth b) g env f h = refl
literal_value d TruthKind (Amount m) g env f h = absurd h
literal_value d (Number s) (Amount m) g env f h = refl
literal_value d (Number s) (Truth b) g env f h = absurd h

pub literal_reads : (d : Declarations) (k : Kind) (v : Value) (g : List Entry) (bs : List (List Place)) (env : Environment) (f : ℤ) → reads_of d (literal_of k v) g bs env f ≡ []
literal_reads d TruthKind v g bs env f = refl
literal_reads d (Number s) v g bs env f = refl

pub told_kind : (d : Declarations) (fixings : Environment) (frame : Option ℤ) (e : Expression) (f : ℤ) (k : Kind) (v : Value) (ks : List Kind) → IsTold d fixings frame e f k → kind_of d (literal_of k v) ks ≡ kind_of d e ks
told_kind d fixings frame e f k v ks t = literal_kind d k v ks ∙ sym t.kind ∙ kind_among d e 0 [] ks t.closed (agree_none [] ks)

-- the fixings hold only what may come
pub fixings_admitted : (d : Declarations) (fixings env : Environment) → MayCome d fixings env → IsAdmitted d fixings
fixings_admitted d fixings env m q v h = m.0 q v (m.1 q v h)

pub on_day : (frame : Option ℤ) (f h : ℤ) → frame ≡ Some h → IsOn frame f → h ≡ f
on_day (Some x) f h e o = sym (cc e) ∙ o
on_day None f h e o = absurd (cc)

pub told_value : (d : Declarations) (fixings : Environment) (frame : Option ℤ) (e : Expression) (h : ℤ) (k : Kind) (g : List Entry) (env : Environment) (f : ℤ) → MayCome d fixings env → IsOn frame f → IsTold d fixings frame e h k → value_of d (literal_of k (value_of d e [] fixings h)) g env f ≡ value_of d e g env f
told_value d fixings frame e h k g env f m o t =
    literal_value d k (value_of d e [] fixings h) g env f (values_have_kinds d e [] fixings h k (fixings_admitted d fixings env m) tt t.kind)
    ∙ (reads_alike d (is_fixed fixings) fixings env (λ q fixed. sym (extension_reads d fixings env m.1 q fixed)) e [] [] [] [] (no_names (is_fixed fixings)) h).values t.fixed
    ∙ value_among d e 0 [] g env h t.closed (both_none [] g)
    ∙ ap (value_of d e g env) (on_day frame f h t.on o)
