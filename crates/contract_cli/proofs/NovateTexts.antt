-- What `novate` prints is a text, as what `advance` prints is, of contracts that stand for the first ones.
use Rattle.std.proofs.Common.{◌≡◌, ◌∙◌, ◌<◌, ◌-◌, ◌+◌, ℕ, ℤ, pos, Bool, true, false, List, [], ◌∷◌, ap, refl, subst, sym}
use Rattle.std.specs.Prelude.{All, None, Some, if◌then◌else◌, length}
use Rattle.std.specs.List.{AllByRecursion}
use Rattle.std.specs.Map.{keys_of}
use Rattle.std.specs.Str.{bytes_eq}
use Rattle.std.proofs.lemmas.List.Elements.{All-from_recursion}
use Rattle.std.proofs.lemmas.Slice.Eq.{bytes_eq-Decides}
use Rattle.term_model.specs.declared.name.Name.{Name}
use Rattle.term_model.specs.Acceptance.{IsAccepted}
use Rattle.term_model.specs.Books.{Book}
use Rattle.term_model.specs.Declarations.{Declarations}
use Rattle.term_model.specs.Environments.{Environment}
use Rattle.term_model.specs.Residuals.{Carries}
use Rattle.term_model.specs.Terms.{Contract}
use Rattle.term_model.specs.WellFormed.{HasOnlyNumbers}
use Rattle.contract_grammar.specs.Texts.{Text}
use Rattle.contract_print.specs.Rests.{IsRestOf, IsSoundRest}
use Rattle.contract_print.proofs.CommentFacts.{comments_change_nothing}
use Rattle.contract_print.proofs.LinesSpelled.{book_spelled}
use Rattle.contract_print.proofs.PlainFacts.{IsPlain, names_plain}
use Rattle.contract_print.proofs.RestFacts.{rest_accepted, rest_spellable}
use Rattle.contract_print.proofs.TextSpellable.{texts_spellable}
use Rattle.exposure.specs.Renaming.{CarriesRenamed, renamed}
use Rattle.exposure.proofs.RenamedFlows.{amounts_are_renamed}
use Rattle.exposure.proofs.RenamedReads.{residuals_are_renamed}
use Rattle.exposure.proofs.RenamedRules.{facts_are_kept, literals_are_kept, numbers_are_kept}
use Rattle.command_words.specs.Commands.{Novate, NovateAsked}
use Rattle.lifecycle_commands.specs.AdvancePromise.{AreResiduals, last_gone}
use Rattle.command_courses.specs.Course.{Tells}
use Rattle.command_courses.specs.Inputs.{file_at}
use Rattle.lifecycle_commands.specs.NovateCourse.{novate_course}
use Rattle.lifecycle_commands.specs.NovatePromise.{IsNovateText, novated, novated_book, novated_entry}
use Rattle.used_contracts.specs.UsedContracts.{used}
use Rattle.command_courses.specs.declared.status.Status.{Status}
use Rattle.command_courses.specs.declared.status.Status.TheVariants as status
use Rattle.lifecycle_commands.proofs.AdvanceFacts.{left_names}
use Rattle.used_contracts.proofs.UsedFacts.{used_names}
use Rattle.lifecycle_commands.proofs.NovateFacts.{novated_sound}
use Rattle.valuation_commands.proofs.ValueParts.{index_within}
use Rattle.lifecycle_commands.proofs.WritableFacts.{left_sound}
use Rattle.contract_cli.specs.Headline.{HasNovated}
use Rattle.contract_cli.specs.NovateLaws.{AreHandedOn, IsHandedOn, IsJudgedAs, NovateTextsAreTexts, TakesOver}
use Rattle.contract_cli.specs.RunLaws.{HasTold}
use Rattle.contract_cli.specs.Seen.{Edge}
use Rattle.contract_cli.proofs.AdvanceTexts.{due_comments, left_numbers, used_same}

-- ---- what a renamed contract takes over

-- what is paid as renamed is paid for all that stand for the two parties
pub takes_over : (d : Declarations) (c : Contract) (f : ℤ) (fixings : Environment) (m old new : ℕ) (rest : Contract) → CarriesRenamed d c f fixings m old new rest → TakesOver d c f fixings m old new rest
takes_over d c f fixings m old new rest h = record {
  carries = h;
  sums = λ env admitted extends n w ps qs «from» to.
      h.amounts env admitted extends n w ∙ amounts_are_renamed d c env f (pos (m + n)) old new w ps qs «from» to;
}

module _ (name : List ℕ) (old new : ℕ) where
  keys_novated : (rest : List (Name × Contract)) → keys_of (novated name old new rest) ≡ keys_of rest
  keys_novated [] = refl
  keys_novated (entry ∷ rest) = ap (λ (names : List Name). entry.0 ∷ names) (keys_novated rest)

  entry_numbers : (b : Bool) (c : Contract) → HasOnlyNumbers c → HasOnlyNumbers (if b then renamed old new c else c)
  entry_numbers true c plain = numbers_are_kept c old new plain
  entry_numbers false c plain = plain

  pub novated_numbers : (rest : List (Name × Contract)) → AllByRecursion (λ (entry : Name × Contract). HasOnlyNumbers entry.1) rest → AllByRecursion (λ (entry : Name × Contract). HasOnlyNumbers entry.1) (novated name old new rest)
  novated_numbers [] all = tt
  novated_numbers (entry ∷ rest) all = (entry_numbers (bytes_eq name entry.0) entry.1 all.0, novated_numbers rest all.1)

  -- with the facts and the literals that it has with the old party
  entry_judged : (d : Declarations) (b : Bool) (c : Contract) → IsJudgedAs d c (if b then renamed old new c else c)
  entry_judged d true c = record { facts = λ facts. facts_are_kept d c old new facts; literals = literals_are_kept c old new }
  entry_judged d false c = record { facts = λ facts. (λ h. h, λ h. h); literals = refl }

  all_judged : (d : Declarations) (rest : List (Name × Contract)) → AllByRecursion (λ (entry : Name × Contract). IsJudgedAs d entry.1 (novated_entry name old new entry).1) rest
  all_judged d [] = tt
  all_judged d (entry ∷ rest) = (entry_judged d (bytes_eq name entry.0) entry.1, all_judged d rest)

  module _ (d : Declarations) (fixings : Environment) (m : ℕ) where
    by_name : (b : Bool) (c rest : Contract) → b ≡ true → Carries d c (pos d.start) fixings m rest → TakesOver d c (pos d.start) fixings m old new (if b then renamed old new rest else rest)
    by_name true c rest is h = takes_over d c (pos d.start) fixings m old new (renamed old new rest) (residuals_are_renamed d c rest (pos d.start) fixings m old new h)
    by_name false c rest is h = absurd cc

    by_other : (b : Bool) (c rest : Contract) → (b ≡ true → ⊥) → Carries d c (pos d.start) fixings m rest → Carries d c (pos d.start) fixings m (if b then renamed old new rest else rest)
    by_other true c rest never h = absurd (never refl)
    by_other false c rest never h = h

    handed_on : (entry left : Name × Contract) → left.0 ≡ entry.0 → Carries d entry.1 (pos d.start) fixings m left.1 → IsHandedOn name old new d fixings m entry (novated_entry name old new left)
    handed_on entry left same h = record {
      name_is = same;
      named = λ is. by_name (bytes_eq name left.0) entry.1 left.1 ((bytes_eq-Decides name left.0).1 (is ∙ sym same)) h;
      other = λ never. by_other (bytes_eq name left.0) entry.1 left.1 (λ is. never ((bytes_eq-Decides name left.0).0 is ∙ same)) h;
    }

  all_handed_on : (d : Declarations) (fixings : Environment) (day : ℕ) (entries rest : List (Name × Contract)) → AreResiduals d fixings day entries rest
      → AreHandedOn name old new d fixings (day - d.start) entries (novated name old new rest)
  all_handed_on d fixings day [] [] is = tt
  all_handed_on d fixings day (entry ∷ entries) (left ∷ rest) is =
      (handed_on d fixings (day - d.start) entry left is.0 is.1.carries, all_handed_on d fixings day entries rest is.2)
  all_handed_on d fixings day _ _ is = absurd is

-- ---- the whole text

pub novate_texts_are_texts : NovateTextsAreTexts
novate_texts_are_texts bytes b asked table text spelled is =
    let d = b.declarations in
    let entries = used None b in
    let left_on = is.novated in
    let rest = left_on.rest in
    let residuals = left_on.is_rest.contracts in
    let moved = novated_book asked.contract is.old is.new rest in
    let fits = texts_spellable bytes b spelled in
    let new : is.new < length d.parties = index_within d.parties asked.new is.new is.names.new_is in
    let names : keys_of entries ≡ keys_of b.contracts = used_names d b.contracts in
    let sound = novated_sound d asked.contract is.old is.new new rest.contracts (left_sound d is.fixings is.day entries rest.contracts residuals) in
    let left : IsRestOf b moved = record {
      day = is.day;
      within = is.can.is_day.no_later;
      declared = left_on.is_rest.declarations;
      names = keys_novated asked.contract is.old is.new rest.contracts ∙ left_names d is.fixings is.day entries rest.contracts residuals ∙ names;
      each = All-from_recursion (λ (entry : Name × Contract). IsSoundRest d entry.1) moved.contracts sound;
    } in
    let plain = subst (λ (ns : List Name). AllByRecursion IsPlain ns) (sym names) (names_plain (keys_of b.contracts) fits.contracts) in
    let due = due_comments d is.fixings (last_gone is.day) entries left_on.due fits.declarations plain left_on.are_due in
    let canon = book_spelled left_on.canon moved (rest_spellable b moved fits left) left_on.is_canon in
    let numbers = novated_numbers asked.contract is.old is.new rest.contracts (left_numbers d is.fixings is.day entries rest.contracts residuals) in
    let same = used_same rest.declarations moved.contracts numbers in
    record {
      old = is.old;
      new = is.new;
      names = is.names;
      day = is.day;
      fixings = is.fixings;
      can = is.can;
      rest = rest;
      is_rest = left_on.is_rest;
      spelled = subst (λ (bytes' : List ℕ). Text bytes' moved) (sym left_on.is) (comments_change_nothing left_on.due left_on.canon moved due canon);
      accepted = subst (λ (es : List (Name × Contract)). All (λ entry. IsAccepted rest.declarations entry.1) es) (sym same) (rest_accepted b moved left);
      judged = All-from_recursion (λ (entry : Name × Contract). IsJudgedAs rest.declarations entry.1 (novated_entry asked.contract is.old is.new entry).1) rest.contracts
          (all_judged asked.contract is.old is.new rest.declarations rest.contracts);
      handed_on = record {
        declarations = left_on.is_rest.declarations;
        contracts = all_handed_on asked.contract is.old is.new d is.fixings is.day entries rest.contracts residuals;
      };
    }

-- ---- the run

novate_told : (asked : NovateAsked) (inputs : List (List ℕ)) (s : Status) (text : List ℕ) → Tells (novate_course asked inputs) s text
    → (b : Book) × Text (file_at inputs 0) b × IsNovateText b asked (Some (file_at inputs 1)) text
novate_told asked inputs s text (b, spelled, (_, known, (old, old_is, (new, new_is, (day, is_day, (_, accepted, (fixings, are_fixings, (_, fixed, (_, told))))))))) = (
  b,
  spelled,
  record {
    old = old;
    new = new;
    names = record { contract = known; old_is = old_is; new_is = new_is };
    day = day;
    fixings = fixings;
    can = record { is_day = is_day; accepted = accepted; are_fixings = are_fixings; fixed = fixed };
    novated = told;
  },
)

pub has_novated : (words : List (List ℕ)) (edge : Edge) (asked : NovateAsked) → HasTold words edge (Novate asked) status.Done → HasNovated edge asked
has_novated words edge asked h =
    let a = novate_told asked h.inputs status.Done h.text h.told in
    record {
      book = a.0;
      inputs = h.inputs;
      text = h.text;
      ran = record { read = h.read; spelled = a.1; written = h.line };
      novated = a.2;
      rest = novate_texts_are_texts (file_at h.inputs 0) a.0 asked (Some (file_at h.inputs 1)) h.text a.1 a.2;
    }
