-- The first read of contracts that is not fixed, as it is held, with one contract more.
use Rattle.std.proofs.Common.{◌≡◌, ◌∙◌, ℤ, true, List, [], ◌∷◌, ◌++◌, append_assoc, ap, refl, subst, sym}
use Rattle.std.specs.Prelude.{Option, Some, None, is_some}
use Rattle.std.proofs.lemmas.List.Elements.{All-push}
use Rattle.term_model.specs.declared.name.Name.{Name}
use Rattle.term_model.specs.Declarations.{Declarations}
use Rattle.term_model.specs.Environments.{Environment}
use Rattle.term_model.specs.Terms.{Contract}
use Rattle.report.specs.declared.fault_lines.Fault.{Fault}
use Rattle.used_contracts.specs.AllFixed.{AreAllFixed, IsMissingOf, IsMissingOne, all_fixed}
use Rattle.used_contracts.specs.ChoosingParts.{Holds}
use Rattle.used_contracts.proofs.FirstFacts.{IsFixedEntry}

module _ (d : Declarations) (fixings : Environment) (last : ℤ) where
  missing_still : (entries : List (Name × Contract)) (entry : Name × Contract) (f : Fault) → IsMissingOf d fixings last entries f → IsMissingOf d fixings last (entries ++ entry ∷ []) f
  missing_still entries entry f h =
      let n = h.first in
      record {
        place = h.place;
        first = record {
          before = n.before;
          entry = n.entry;
          after = n.after ++ entry ∷ [];
          split = ap (λ (es : List (Name × Contract)). es ++ entry ∷ []) n.split ∙ append_assoc n.before (n.entry ∷ n.after) (entry ∷ []);
          fixed = n.fixed;
          missing = n.missing;
        };
        fault_is = h.fault_is;
      }

  missing_now : (entries : List (Name × Contract)) (entry : Name × Contract) (f : Fault) → AreAllFixed d fixings last entries → IsMissingOne d fixings last entry.1 f → IsMissingOf d fixings last (entries ++ entry ∷ []) f
  missing_now entries entry f all one = record {
    place = one.place;
    first = record { before = entries; entry = entry; after = []; split = refl; fixed = all; missing = one.missing };
    fault_is = one.fault_is;
  }

  pub missing_behind_held : (held : Option Fault) (entries : List (Name × Contract)) (entry : Name × Contract) → is_some held ≡ true
      → Holds (all_fixed d fixings last entries) held → Holds (all_fixed d fixings last (entries ++ entry ∷ [])) held
  missing_behind_held None entries entry some h = absurd cc
  missing_behind_held (Some f) entries entry some h = missing_still entries entry f h

  pub fixed_before : (held : Option Fault) (entries : List (Name × Contract)) → held ≡ None → Holds (all_fixed d fixings last entries) held → AreAllFixed d fixings last entries
  fixed_before held entries none h = subst (λ (r : Option Fault). Holds (all_fixed d fixings last entries) r) none h

  pub fixed_more : (held : Option Fault) (entries : List (Name × Contract)) (entry : Name × Contract) → held ≡ None → IsFixedEntry d fixings last entry
      → Holds (all_fixed d fixings last entries) held → Holds (all_fixed d fixings last (entries ++ entry ∷ [])) held
  fixed_more held entries entry none fixed h =
      subst (λ (r : Option Fault). Holds (all_fixed d fixings last (entries ++ entry ∷ [])) r) (sym none)
      (All-push (IsFixedEntry d fixings last) entries entry (fixed_before held entries none h) fixed)

  pub missing_held_now : (held : Option Fault) (entries : List (Name × Contract)) (entry : Name × Contract) (f : Fault) → held ≡ None
      → IsMissingOne d fixings last entry.1 f → Holds (all_fixed d fixings last entries) held → IsMissingOf d fixings last (entries ++ entry ∷ []) f
  missing_held_now held entries entry f none one h = missing_now entries entry f (fixed_before held entries none h) one
