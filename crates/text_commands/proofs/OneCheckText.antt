-- Contracts have one text of `check`: each has one verdict, and the verdict one line.
use Rattle.std.proofs.Common.{◌≡◌, ◌∙◌, ℕ, List, [], ◌∷◌, ◌++◌, ap, pos, sym}
use Rattle.term_model.specs.declared.name.Name.{Name}
use Rattle.term_model.specs.declared.rules.Rule.{Rule}
use Rattle.term_model.specs.Declarations.{Declarations}
use Rattle.term_model.specs.Terms.{Contract}
use Rattle.term_model.specs.Acceptance.{Facts}
use Rattle.term_model.proofs.RefusalFacts.{accepted_not_refused, refusals_unique}
use Rattle.contract_check.proofs.CheckFacts.{facts_unique}
use Rattle.report.specs.CheckLines.{accepted_line, refused_line}
use Rattle.text_commands.specs.CheckPromise.{AreCheckLines, IsCheckLine, accepted, refused}

one_line : (d : Declarations) (name : List ℕ) (c : Contract) (l m : List ℕ) → IsCheckLine d name c l → IsCheckLine d name c m → l ≡ m
one_line d name c l m (accepted f a right causal is) (accepted g b wrong also was) =
    is ∙ ap (λ (x : Facts). accepted_line d.amounts name x.start x.scale (pos x.total) x.horizon) (facts_unique d c f g right wrong) ∙ sym was
one_line d name c l m (accepted f a right causal is) (refused rule node r was) = absurd (accepted_not_refused d c rule node a r)
one_line d name c l m (refused rule node r is) (accepted g b right causal was) = absurd (accepted_not_refused d c rule node b r)
one_line d name c l m (refused rule node r is) (refused other place q was) =
    let same = refusals_unique d c rule other node place r q in
    is ∙ ap (λ (x : Rule). refused_line name x node) same.0 ∙ ap (λ (k : ℕ). refused_line name other k) same.1 ∙ sym was

pub check_lines_one : (d : Declarations) (entries : List (Name × Contract)) (t u : List ℕ) → AreCheckLines d entries t → AreCheckLines d entries u → t ≡ u
check_lines_one d [] t u is was = is ∙ sym was
check_lines_one d (e ∷ es) t u is was =
    let first = one_line d e.0 e.1 is.0 was.0 is.2 was.2 in
    let rest = check_lines_one d es is.1 was.1 is.3 was.3 in
    is.4 ∙ ap (λ (x : List ℕ). x ++ is.1) first ∙ ap (λ (x : List ℕ). was.0 ++ x) rest ∙ sym was.4
