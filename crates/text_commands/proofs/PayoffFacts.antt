-- The contract of a name that is kept of the contracts of a text, its code, and the parts of `payoff` put together.
use Rattle.std.proofs.Common.{◌≡◌, ◌∙◌, ◌≤◌, inl, inr, ℕ, Bool, true, false, cond, List, [], ◌∷◌, ◌++◌, ap, length, refl, subst, sym}
use Rattle.std.specs.Prelude.{All, IfSome, Option, Some, None, Result, option_map}
use Rattle.std.specs.Option.{option_or}
use Rattle.std.specs.Global.{Vec}
use Rattle.std.specs.Map.{lookup}
use Rattle.std.specs.Str.{bytes_eq}
use Rattle.std.proofs.lemmas.Map.Entries.{All-lookup}
use Rattle.term_model.specs.declared.name.Name.{Name}
use Rattle.term_model.specs.declared.terms.Contr.{Contr}
use Rattle.term_model.specs.Books.{Book}
use Rattle.term_model.specs.Declarations.{Declarations, at_one_scale}
use Rattle.term_model.specs.Limits.{longest_file}
use Rattle.term_model.specs.Terms.{Contract, contract}
use Rattle.term_model.specs.WellFormed.{IsClosed}
use Rattle.contract_parse.specs.NextContracts.{IsNext, IsSoundContract}
use Rattle.contract_grammar.specs.Texts.{Text}
use Rattle.contract_parse.specs.declared.next_contracts.ContractReader.{ContractReader}
use Rattle.contract_parse.specs.declared.next_contracts.NextContract.{NextContract}
use Rattle.contract_grammar.specs.Writable.{IsWritableTerm}
use Rattle.contract_print.proofs.TextSpellable.{texts_writable}
use Rattle.payoff_terms.specs.Code.{PayoffCode}
use Rattle.payoff_terms.specs.CodeBooks.{CodeBook}
use Rattle.payoff_lang.specs.CodeCanon.{IsCanonOfCode}
use Rattle.payoff_terms.specs.Compiled.{code_of}
use Rattle.payoff_terms.specs.WritableCode.{IsWritableCode}
use Rattle.payoff_compile.proofs.PlainFacts.{code_plain}
use Rattle.payoff_compile.proofs.WritableFacts.{plain_writable, terms_small}
use Rattle.report.specs.declared.fault_lines.Fault.{Fault}
use Rattle.report.specs.declared.fault_lines.Fault.TheVariants as fault
use Rattle.command_words.specs.Commands.{PayoffAsked}
use Rattle.used_contracts.specs.ChoosingParts.{StopsIn, so_far}
use Rattle.command_courses.specs.Course.{Stops, Tells}
use Rattle.used_contracts.specs.AcceptingParts.{IsRefusedOne}
use Rattle.text_commands.specs.PayoffCourse.{payoff_of, payoff_of_text}
use Rattle.text_commands.specs.PayoffParts.{HasKept, IsKept, IsKeptOfText, IsNamedIn}
use Rattle.text_commands.specs.PayoffPromise.{IsAcceptedAtDefaults, code_asked, code_file_of, file_of}
use Rattle.text_commands.specs.PayoffStages.{IsRefusedNamed, NamesNone}
use Rattle.command_courses.specs.Stopping.{GoesDone}
use Rattle.used_contracts.specs.UsedContracts.{at_defaults, contract_named}
use Rattle.command_courses.specs.declared.status.Status.TheVariants as status
use Rattle.command_courses.specs.declared.stop.Stop.{Stop}
use Rattle.command_courses.proofs.StopFacts.{answers_too}
use Rattle.used_contracts.proofs.UsedFacts.{contracts_sound}

-- ---- the contract of a name

first_of : (b : Bool) (v : Contract) (left more : Option Contract) → cond b (Some v) (option_or left more) ≡ option_or (cond b (Some v) left) more
first_of true v left more = refl
first_of false v left more = refl

-- what is found is found before the others, or else behind them
found_behind : (test : List ℕ → Bool) (xs ys : List (Name × Contract)) → lookup test (xs ++ ys) ≡ option_or (lookup test xs) (lookup test ys)
found_behind test [] ys = refl
found_behind test (x ∷ xs) ys =
    ap (λ (o : Option Contract). cond (test x.0) (Some x.1) o) (found_behind test xs ys) ∙ first_of (test x.0) x.1 (lookup test xs) (lookup test ys)

tree_of_first : (kept one : Option Contr) → option_or (option_map contract kept) (option_map contract one) ≡ option_map contract (option_or kept one)
tree_of_first None one = refl
tree_of_first (Some c) one = refl

kept_behind : (name : List ℕ) (entries others : List (Name × Contract)) (kept one : Option Contr) → IsKept name entries kept → IsKept name others one → IsKept name (entries ++ others) (option_or kept one)
kept_behind name entries others kept one h k =
    found_behind (bytes_eq name) entries others
    ∙ ap (λ (o : Option Contract). option_or o (lookup (bytes_eq name) others)) h
    ∙ ap (λ (o : Option Contract). option_or (option_map contract kept) o) k
    ∙ tree_of_first kept one

-- one contract alone
pub kept_alone : (name key : List ℕ) (c : Contr) → bytes_eq name key ≡ true → IsKept name ((key, contract c) ∷ []) (Some c)
kept_alone name key c same = ap (λ (b : Bool). cond b (Some (contract c)) None) same

module _ (text : List ℕ) (d : Declarations) (name : List ℕ) where
  pub more_kept : (reader after : ContractReader) (before found kept : Option Contr) (one : NextContract) (h : HasKept text d name reader before) → IsNext text d h.entries after one
      → IsKept name ((one.name.now, contract one.contr) ∷ []) found → kept ≡ option_or before found → HasKept text d name after kept
  more_kept reader after before found kept one h next alone is =
      let entry : Name × Contract = (one.name.now, contract one.contr) in
      record {
        entries = h.entries ++ entry ∷ [];
        read = next.read;
        is_kept = subst (IsKept name (h.entries ++ entry ∷ [])) (sym is) (kept_behind name h.entries (entry ∷ []) before found h.is_kept alone);
      }

  pub all_kept : (reader : ContractReader) (kept : Option Contr) (h : HasKept text d name reader kept) → Text text (record { declarations = d; contracts = h.entries }) → IsKeptOfText text d name kept
  all_kept reader kept h whole = record { entries = h.entries; is_text = whole; is_kept = h.is_kept }

-- what holds of each contract holds of the named one
pub named_has : (P : Contract → Type 0) (b : Book) (name : List ℕ) (c : Contract) → contract_named name b ≡ Some c → All (λ entry. P entry.1) b.contracts → P c
named_has P b name c named all = subst (λ (o : Option Contract). IfSome o P) named (All-lookup P (bytes_eq name) b.contracts all)

module _ (text : List ℕ) (d : Declarations) (name : List ℕ) (c : Contr) (h : IsNamedIn text d name c) where
  pub named_sound : length text ≤ longest_file → IsSoundContract d (contract c)
  named_sound short = named_has (IsSoundContract d) (so_far d h.entries) name (contract c) h.named (contracts_sound text (so_far d h.entries) h.is_text short)

  pub named_writable : IsWritableTerm (contract c)
  named_writable = named_has IsWritableTerm (so_far d h.entries) name (contract c) h.named (texts_writable text (so_far d h.entries) h.is_text)

-- ---- its code

pub code_writable : (d : Declarations) (c : Contract) (plain : Bool) → IsClosed d c → IsAcceptedAtDefaults d c → IsWritableTerm c → IsWritableCode (code_asked plain c)
code_writable d c true closed accepted writable = (plain_writable d c (code_of c) (code_plain d c closed accepted) (terms_small c writable)).0
code_writable d c false closed accepted writable = (plain_writable d c (code_of c) (code_plain d c closed accepted) (terms_small c writable)).1

-- ---- the parts put together

-- a refusal is that of the name that is asked for
pub refused_named : (d : Declarations) (name called : List ℕ) (c : Contract) → called ≡ name → (f : Fault) → IsRefusedOne d (at_defaults d (called, c)) f → IsRefusedNamed d name c f
refused_named d name called c same f h =
    record { rule = h.rule; node = h.node; refused = h.refused; fault_is = h.fault_is ∙ ap (λ (n : List ℕ). fault.Refused n h.rule h.node) same }

-- the text of the code is that of the file that is asked for
pub canon_asked : (d : Declarations) (asked : PayoffAsked) (called : List ℕ) (c : Contract) (code : PayoffCode) (text : List ℕ) → called ≡ asked.contract → code ≡ code_asked asked.plain c
    → IsCanonOfCode text (file_of (at_one_scale d) called code) → IsCanonOfCode text (code_file_of d asked c)
canon_asked d asked called c code text same is canon =
    subst (λ (f : CodeBook). IsCanonOfCode text f)
    (ap (λ (n : List ℕ). file_of (at_one_scale d) n code) same ∙ ap (λ (k : PayoffCode). file_of (at_one_scale d) asked.contract k) is) canon

-- what stops the command by the name stops it on the text
pub stops_by_name : (asked : PayoffAsked) (text : List ℕ) (d : Declarations) (f : Fault) → StopsIn text d (λ b. NamesNone b asked.contract) f → Stops (payoff_of_text asked text) f
stops_by_name asked text d f (inl bad) = inl bad
stops_by_name asked text d f (inr (entries, is, none)) = inr (so_far d entries, is, inl none)

-- and what comes of the named contract comes of the text
pub goes_of_named : (asked : PayoffAsked) (text : List ℕ) (d : Declarations) (c : Contr) → IsNamedIn text d asked.contract c → (r : Result (Vec ℕ) Stop)
    → GoesDone (payoff_of asked d (contract c)) r → GoesDone (payoff_of_text asked text) r
goes_of_named asked text d c h r goes =
    let b = so_far d h.entries in
    answers_too (λ (t : Vec ℕ). Tells (payoff_of asked d (contract c)) status.Done t.items) (λ (t : Vec ℕ). Tells (payoff_of_text asked text) status.Done t.items)
    (Stops (payoff_of asked d (contract c))) (Stops (payoff_of_text asked text))
    (λ t k. (b, h.is_text, (contract c, h.named, k))) (λ f k. inr (b, h.is_text, inr (contract c, h.named, k))) r goes
