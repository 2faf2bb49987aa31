-- A command tells one text of the bytes of its files.
use Rattle.std.proofs.Common.{◌≡◌, ℕ, List, subst}
use Rattle.std.specs.Prelude.{None, Some}
use Rattle.term_model.specs.Books.{Book}
use Rattle.contract_parse.proofs.OneText.{one_text}
use Rattle.contract_print.specs.Canon.{IsCanon}
use Rattle.contract_print.specs.Migrated.{migrated}
use Rattle.contract_print.proofs.LinesSpelled.{one_canon}
use Rattle.schedule_forms.specs.PlanBooks.{PlanBook, expanded_book}
use Rattle.schedule_forms.proofs.OnePlans.{one_plan_file}
use Rattle.payoff_terms.specs.CodeBooks.{CodeBook}
use Rattle.payoff_lang.proofs.OneCode.{one_code_text}
use Rattle.command_words.specs.Commands.{Advance, Check, Expand, Flows, Migrate, Novate, Payoff, Positions, Request, Sample, Scenarios, Settle, Value}
use Rattle.command_courses.specs.Course.{Tells}
use Rattle.command_courses.specs.Inputs.{file_at, table_if_named}
use Rattle.command_courses.specs.declared.status.Status.{Status}
use Rattle.used_contracts.specs.UsedContracts.{used}
use Rattle.flow_commands.specs.FlowsCourse.{flows_on, table_named}
use Rattle.flow_commands.specs.NettingCourse.{netting_on}
use Rattle.flow_commands.specs.NettingPromise.{TellsPositions, TellsSettlement}
use Rattle.flow_commands.proofs.FlowsAreOne.{told_of_flows}
use Rattle.flow_commands.proofs.NettingAreOne.{one_text_of_positions, one_text_of_settlement, told_of_netting}
use Rattle.lifecycle_commands.specs.AdvanceCourse.{advance_on}
use Rattle.lifecycle_commands.specs.NovateCourse.{novate_on}
use Rattle.lifecycle_commands.proofs.TextsAreOne.{told_of_advance, told_of_novate}
use Rattle.text_commands.specs.CheckPromise.{AreCheckLines}
use Rattle.text_commands.specs.PayoffCourse.{payoff_on}
use Rattle.text_commands.proofs.OneCheckText.{check_lines_one}
use Rattle.text_commands.proofs.OneCode.{told_of_payoff}
use Rattle.valuation_commands.specs.ScenariosCourse.{scenarios_on}
use Rattle.valuation_commands.specs.ValueCourse.{value_on}
use Rattle.valuation_commands.proofs.OneWorth.{told_of_scenarios, told_of_value}
use Rattle.command_answers.specs.Courses.{course_of}
use Rattle.command_answers.proofs.OneSummary.{one_summary}

-- ---- of the bytes of its files

pub one_told : (request : Request) (inputs : List (List ℕ)) (s t : Status) (one other : List ℕ)
    → Tells (course_of request inputs) s one → Tells (course_of request inputs) t other → one ≡ other
one_told (Check portfolio) inputs s t one other (b, p, (verdict, lines)) (c, q, (told, more)) =
    check_lines_one b.declarations (used None b) one other lines
    (subst (λ (x : Book). AreCheckLines x.declarations (used None x) other) (one_text (file_at inputs 0) c b q p) more)
one_told (Flows asked) inputs s t one other (b, p, h) (c, q, k) =
    told_of_flows asked b (table_named asked inputs) s t one other h
    (subst (λ (x : Book). Tells (flows_on asked x (table_named asked inputs)) t other) (one_text (file_at inputs 0) c b q p) k)
one_told (Advance asked) inputs s t one other (b, p, h) (c, q, k) =
    told_of_advance asked b (Some (file_at inputs 1)) s t one other h
    (subst (λ (x : Book). Tells (advance_on asked x (Some (file_at inputs 1))) t other) (one_text (file_at inputs 0) c b q p) k)
one_told (Payoff asked) inputs s t one other (b, p, h) (c, q, k) =
    told_of_payoff asked b s t one other h (subst (λ (x : Book). Tells (payoff_on asked x) t other) (one_text (file_at inputs 0) c b q p) k)
one_told (Value asked) inputs s t one other (b, p, h) (c, q, k) =
    told_of_value asked b (file_at inputs 1) (file_at inputs 2) s t one other h
    (subst (λ (x : CodeBook). Tells (value_on asked x (file_at inputs 1) (file_at inputs 2)) t other) (one_code_text (file_at inputs 0) c b q p) k)
one_told (Migrate portfolio) inputs s t one other (b, p, (done, canon)) (c, q, (ended, more)) =
    one_canon one other (migrated b) canon (subst (λ (x : Book). IsCanon other (migrated x)) (one_text (file_at inputs 0) c b q p) more)
one_told (Expand plans) inputs s t one other (b, p, (a, accepted, (done, canon))) (c, q, (x, accepts, (ended, more))) =
    one_canon one other (expanded_book b) canon (subst (λ (x : PlanBook). IsCanon other (expanded_book x)) (one_plan_file (file_at inputs 0) c b q p) more)
one_told (Sample contracts) inputs s t one other h k = one_summary contracts one other h.1 k.1
one_told (Positions asked) inputs s t one other (b, p, h) (c, q, k) =
    told_of_netting TellsPositions one_text_of_positions asked b (table_if_named asked.fixings inputs) s t one other h
    (subst (λ (x : Book). Tells (netting_on TellsPositions asked x (table_if_named asked.fixings inputs)) t other) (one_text (file_at inputs 0) c b q p) k)
one_told (Settle asked) inputs s t one other (b, p, h) (c, q, k) =
    told_of_netting TellsSettlement one_text_of_settlement asked b (table_if_named asked.fixings inputs) s t one other h
    (subst (λ (x : Book). Tells (netting_on TellsSettlement asked x (table_if_named asked.fixings inputs)) t other) (one_text (file_at inputs 0) c b q p) k)
one_told (Novate asked) inputs s t one other (b, p, h) (c, q, k) =
    told_of_novate asked b (Some (file_at inputs 1)) s t one other h
    (subst (λ (x : Book). Tells (novate_on asked x (Some (file_at inputs 1))) t other) (one_text (file_at inputs 0) c b q p) k)
one_told (Scenarios asked) inputs s t one other (b, p, h) (c, q, k) =
    told_of_scenarios asked b (file_at inputs 1) (file_at inputs 2) s t one other h
    (subst (λ (x : CodeBook). Tells (scenarios_on asked x (file_at inputs 1) (file_at inputs 2)) t other) (one_code_text (file_at inputs 0) c b q p) k)
