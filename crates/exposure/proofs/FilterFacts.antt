-- A row among those of its day and asset.
use Rattle.std.proofs.Common.{◌≡◌, Bool, true, false, cond, inl, inr, ◌⊎◌, List, [], ◌∷◌, refl, ap, sym, ◌∙◌}
use Rattle.std.specs.List.{Contains, filter}
use Rattle.std.proofs.lemmas.Bool.{eq-eqb}
use Rattle.std.proofs.lemmas.Bool.Decides.{Decides-int_eq}
use Rattle.flow_eval.specs.declared.flow_table.FlowRow.{FlowRow}
use Rattle.exposure.specs.Positions.{is_on}
use Rattle.exposure.proofs.RenamingFacts.{member, member_cases}

into_filter : (P : FlowRow → Bool) (row x : FlowRow) (rows : List FlowRow) (b : Bool) → P row ≡ b → P x ≡ true → (row ≡ x) ⊎ Contains (filter P rows) x → Contains (cond b (row ∷ filter P rows) (filter P rows)) x
into_filter P row x rows true e t (inl same) = member x row (filter P rows) (inl (sym same))
into_filter P row x rows true e t (inr h) = member x row (filter P rows) (inr h)
into_filter P row x rows false e t (inl same) = absurd (let no : P x ≡ false = ap P (sym same) ∙ e in cc)
into_filter P row x rows false e t (inr h) = h

pub kept_in : (P : FlowRow → Bool) (x : FlowRow) (rows : List FlowRow) → P x ≡ true → Contains rows x → Contains (filter P rows) x
kept_in P x [] t h = h
kept_in P x (row ∷ rows) t h =
    into_filter P row x rows (P row) refl t (elim (member_cases x row rows h) [ inl e ↦ inl e | inr k ↦ inr (kept_in P x rows t k) ])

out_of : (b : Bool) (row x : FlowRow) (rows : List FlowRow) → Contains (cond b (row ∷ rows) rows) x → (row ≡ x) ⊎ Contains rows x
out_of true row x rows h = member_cases x row rows h
out_of false row x rows h = inr h

pub from_filter : (P : FlowRow → Bool) (x : FlowRow) (rows : List FlowRow) → Contains (filter P rows) x → Contains rows x
from_filter P x [] h = h
from_filter P x (row ∷ rows) h =
    elim (out_of (P row) row x (filter P rows) h) [ inl e ↦ member x row rows (inl (sym e)) | inr k ↦ member x row rows (inr (from_filter P x rows k)) ]

pub on_itself : (row : FlowRow) → is_on row.day row.asset row ≡ true
on_itself row = rw ((Decides-int_eq row.day row.day).1 refl, eq-eqb row.asset row.asset refl) refl
