-- The rows of the flow table of an accepted contract, and those of the sum of such tables, have lines.
use Rattle.std.proofs.Common.{◌-◌, ℤ, ◌-ℤ◌, List, [], ◌∷◌, subst, sym}
use Rattle.std.specs.List.{All}
use Rattle.std.proofs.lemmas.List.Elements.{All-head, All-tail, All-weaker}
use Rattle.term_model.specs.Acceptance.{IsAccepted}
use Rattle.term_model.specs.Declarations.{Declarations, decimals_of}
use Rattle.term_model.specs.Environments.{Environment}
use Rattle.term_model.specs.Flows.{Flow}
use Rattle.term_model.specs.LawsScales.{IsMultiple}
use Rattle.term_model.specs.Terms.{Contract}
use Rattle.term_model.proofs.MultipleFacts.{amounts_multiple, none_multiple, sum_multiple}
use Rattle.flow_eval.specs.Tables.{IsPaid, IsTable, flow_in, paid_by}
use Rattle.flow_eval.specs.declared.flow_table.FlowRow.{FlowRow}
use Rattle.report.specs.FlowLines.{HaveLines, PaysInAssets}
use Rattle.report.specs.SumTables.{together}

pub paid_in_assets : (d : Declarations) (c : Contract) (env : Environment) (first : ℤ) → IsAccepted d c → PaysInAssets d (paid_by d c env first)
paid_in_assets d c env first accepted day w = amounts_multiple d c env first (day -ℤ first) w accepted

pub together_in_assets : (d : Declarations) (all : List (ℤ → Flow → ℤ)) → All (PaysInAssets d) all → PaysInAssets d (together all)
together_in_assets d [] h day w = none_multiple (d.amounts - decimals_of d w.asset)
together_in_assets d (pays ∷ others) h day w =
    sum_multiple (pays day w) (together others day w) (d.amounts - decimals_of d w.asset)
    (All-head (PaysInAssets d) pays others h day w) (together_in_assets d others (All-tail (PaysInAssets d) pays others h) day w)

pub table_has_lines : (d : Declarations) (pays : ℤ → Flow → ℤ) (first last : ℤ) (rows : List FlowRow) → PaysInAssets d pays → IsTable pays first last rows → HaveLines d rows
table_has_lines d pays first last rows h table =
    All-weaker (λ row. IsPaid pays first last row) (λ row. IsMultiple row.amount (d.amounts - decimals_of d row.asset))
    (λ row paid. subst (λ (x : ℤ). IsMultiple x (d.amounts - decimals_of d row.asset)) (sym paid.exact) (h row.day (flow_in row)))
    rows table.right
