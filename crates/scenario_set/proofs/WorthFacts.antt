-- What code is worth over a map that holds what the map of a scenario holds.
use Rattle.std.proofs.Common.{◌≡◌, ◌∙◌, ℕ, ℤ, pos, ◌≤◌, List, Result, Ok, Err, refl, sym, subst}
use Rattle.std.specs.Prelude.{unsigned_abs}
use Rattle.term_model.specs.Declarations.{Declarations}
use Rattle.term_model.specs.declared.values.Missing.{Missing}
use Rattle.term_model.specs.Environments.{Environment, IsAdmitted}
use Rattle.term_model.specs.Factors.{IsCurve, IsFactor}
use Rattle.interval_check.specs.Within.{KeepsLimits}
use Rattle.expr_eval.specs.Standing.{place_of}
use Rattle.payoff_terms.specs.CodeAcceptance.{IsAcceptedCode}
use Rattle.payoff_eval.specs.CodeAnswers.{IsValueOf, aligned_value}
use Rattle.payoff_eval.proofs.LawFacts.{values_are_within_totals}
use Rattle.payoff_eval.proofs.SameFacts.{extends_same, same_lacked}
use Rattle.scenario_set.specs.Scenarios.{AreAdmitted, IsMapOf, NamedMap}
use Rattle.scenario_set.specs.Totals.{Inquiry, LacksIn, most_worth}
use Rattle.scenario_set.specs.TotalSteps.{AnswersIn, IsWorthIn, told_in}

-- a map that holds what an admitted one holds is admitted
pub admitted_map : (d : Declarations) (set : List NamedMap) (i : ℕ) (env : Environment) → AreAdmitted d set → IsMapOf set i env → IsAdmitted d env
admitted_map d set i env admitted m q v h = admitted i m.scenario m.stands q v (sym (m.same q) ∙ h)

-- a value over the map of a scenario is its value in the scenario
pub worth_is :
    (q : Inquiry) (set : List NamedMap) (i : ℕ) (env : Environment) (worth : ℤ) → IsMapOf set i env
    → KeepsLimits q.book.declarations → IsAcceptedCode q.book.declarations q.setting q.book.code → AreAdmitted q.book.declarations set
    → IsCurve q.asked.curve → IsFactor q.asked.gone
    → IsValueOf q.book q.setting env q.asked (Ok worth) → IsWorthIn q set i worth
worth_is q set i env worth m limits accepted admitted curve gone h =
    let d = q.book.declarations in
    let b = pos d.start in
    let s = m.scenario in
    let is : aligned_value d q.book.code s.map q.setting q.asked b ≡ worth = h.value s.map (extends_same env s.map m.same) in
    let most = values_are_within_totals d q.setting q.book.code s.map q.asked b limits accepted (admitted i s m.stands) curve gone in
    record {
      scenario = s;
      stands = m.stands;
      fixed = sym (same_lacked d q.book.code q.setting q.asked b env s.map m.same) ∙ sym h.missing;
      is = sym is;
      size = subst (λ (z : ℤ). unsigned_abs z ≤ most_worth q) is most;
    }

-- a place that it lacks is lacked in the scenario
pub lack_is :
    (q : Inquiry) (set : List NamedMap) (i : ℕ) (env : Environment) (missing : Missing) → IsMapOf set i env
    → IsValueOf q.book q.setting env q.asked (Err missing) → LacksIn q set i (place_of missing)
lack_is q set i env missing m h =
    let d = q.book.declarations in
    record {
      scenario = m.scenario;
      stands = m.stands;
      lacked = sym (same_lacked d q.book.code q.setting q.asked (pos d.start) env m.scenario.map m.same) ∙ sym h.missing;
    }

pub answers_is :
    (q : Inquiry) (set : List NamedMap) (i : ℕ) (env : Environment) (r : Result ℤ Missing) → IsMapOf set i env
    → KeepsLimits q.book.declarations → IsAcceptedCode q.book.declarations q.setting q.book.code → AreAdmitted q.book.declarations set
    → IsCurve q.asked.curve → IsFactor q.asked.gone
    → IsValueOf q.book q.setting env q.asked r → AnswersIn q set i (told_in i r)
answers_is q set i env (Ok worth) m limits accepted admitted curve gone h = worth_is q set i env worth m limits accepted admitted curve gone h
answers_is q set i env (Err missing) m limits accepted admitted curve gone h = (refl, lack_is q set i env missing m h)
