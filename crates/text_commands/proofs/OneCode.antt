-- The code of a contract of a portfolio has one text.
use Rattle.std.proofs.Common.{◌≡◌, ◌∙◌, ℕ, List, subst, sym}
use Rattle.term_model.specs.Books.{Book}
use Rattle.term_model.specs.Terms.{Contract}
use Rattle.payoff_lang.specs.CodeCanon.{IsCanonOfCode}
use Rattle.payoff_lang.proofs.CodeCanonFacts.{one_canon_of_code}
use Rattle.command_words.specs.Commands.{PayoffAsked}
use Rattle.command_courses.specs.Course.{Tells}
use Rattle.command_courses.specs.declared.status.Status.{Status}
use Rattle.command_courses.proofs.StageFacts.{some_same}
use Rattle.text_commands.specs.PayoffCourse.{payoff_on}
use Rattle.text_commands.specs.PayoffPromise.{code_file_of}

pub told_of_payoff : (asked : PayoffAsked) (b : Book) (s t : Status) (one other : List ℕ)
    → Tells (payoff_on asked b) s one → Tells (payoff_on asked b) t other → one ≡ other
told_of_payoff asked b s t one other (c, named, (a, accepted, (done, canon))) (e, called, (x, accepts, (ended, more))) =
    let same = some_same e c (sym called ∙ named) in
    one_canon_of_code one other (code_file_of b.declarations asked c) canon (subst (λ (x : Contract). IsCanonOfCode other (code_file_of b.declarations asked x)) same more)
