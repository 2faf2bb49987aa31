-- What `payoff` prints is a text of a code file, whose code means the contract.
use Rattle.std.proofs.Common.{◌≡◌, ◌∙◌, inl, inr, Bool, true, false, ◌&&◌, ◌||◌, List, [], ◌∷◌, ◌++◌, ap, refl, subst, sym}
use Rattle.std.specs.Prelude.{Some, is_some, not}
use Rattle.std.specs.Cmp.Lexicographic.{bytes_decides}
use Rattle.std.specs.List.{list_any}
use Rattle.std.specs.Map.{keys_of}
use Rattle.std.specs.Str.{bytes_eq}
use Rattle.std.proofs.lemmas.Bool.{and_parts, cases_Bool}
use Rattle.std.proofs.lemmas.Map.Made.{is_some-lookup}
use Rattle.term_model.specs.Books.{Book}
use Rattle.term_model.specs.Declarations.{Declarations, at_one_scale}
use Rattle.term_model.specs.Instances.{declared_numbers, instance}
use Rattle.term_model.specs.Terms.{Contract}
use Rattle.term_model.proofs.FormedFacts.{closed_at_one_scale}
use Rattle.term_model.proofs.VerdictFacts.{accepted_at_one_scale}
use Rattle.contract_grammar.specs.Names.{is_declared}
use Rattle.contract_grammar.specs.NameTexts.{is_name_text}
use Rattle.contract_grammar.specs.Words.{Bytes}
use Rattle.contract_print.specs.Spellable.{IsSpellable, are_names, are_new}
use Rattle.contract_grammar.specs.Writable.{IsWritableTerm}
use Rattle.contract_print.proofs.LinesSpelled.{decls_spelled}
use Rattle.contract_print.proofs.MigratedFacts.{one_scale_spellable}
use Rattle.contract_print.proofs.TextSpellable.{texts_spellable, texts_writable}
use Rattle.payoff_lang.specs.CodeFiles.{IsPrintableFile}
use Rattle.payoff_terms.specs.Compiled.{code_of}
use Rattle.payoff_terms.specs.PrintableCode.{IsPrintableCode}
use Rattle.payoff_lang.proofs.CodeFileSpelled.{file_spelled}
use Rattle.payoff_compile.specs.CompiledCode.{IsPlainCode}
use Rattle.payoff_compile.specs.Literals.{ContractHasSmallLiterals}
use Rattle.payoff_compile.proofs.PlainFacts.{code_plain}
use Rattle.payoff_compile.proofs.WritableFacts.{terms_small}
use Rattle.contract_cli.specs.PayoffLaws.{IsCodeFor, PayoffTextsMean}
use Rattle.text_commands.specs.PayoffPromise.{code_asked, code_file_of}
use Rattle.used_contracts.specs.UsedContracts.{contract_named}
use Rattle.text_commands.proofs.PayoffFacts.{named_has}

-- ---- the name

second_holds : (x y : Bool) → x ≡ false → (x || y) ≡ true → y ≡ true
second_holds false y differs h = h
second_holds true y differs h = absurd cc

-- what is among names of texts is one
among_names : (before names : List Bytes) (name : Bytes) → are_new before names ≡ true → list_any (bytes_eq name) names ≡ true → is_name_text name ≡ true
among_names before [] name new among = absurd cc
among_names before (x ∷ names) name new among =
    let first = and_parts (is_name_text x && not (is_declared before x)) (are_new (before ++ x ∷ []) names) new in
    let text = and_parts (is_name_text x) (not (is_declared before x)) first.0 in
    elim (cases_Bool (bytes_eq name x)) [
      | inl here ↦ subst (λ (n : Bytes). is_name_text n ≡ true) (sym ((bytes_decides name x).0 here)) text.0
      | inr other ↦ among_names (before ++ x ∷ []) names name first.1 (second_holds (bytes_eq name x) (list_any (bytes_eq name) names) other among)
    ]

name_fits : (b : Book) (name : Bytes) (c : Contract) → are_names (keys_of b.contracts) ≡ true → contract_named name b ≡ Some c → is_name_text name ≡ true
name_fits b name c names named =
    among_names [] (keys_of b.contracts) name names (sym (is_some-lookup (bytes_eq name) b.contracts) ∙ ap is_some named)

-- ---- the code

module _ (d : Declarations) (c : Contract) (code : IsPlainCode d c (code_of c)) where
  code_for : (plain : Bool) → IsCodeFor d c plain (code_asked plain c)
  code_for true = record { means = code.means; accepted = code.accepted.0; few = code.nodes }
  code_for false = record { means = code.means_cut; accepted = code.accepted.1; few = code.nodes_cut }

  printable : (plain : Bool) → ContractHasSmallLiterals c → IsPrintableCode d (code_asked plain c)
  printable true small = (code.printable small).0
  printable false small = (code.printable small).1

pub payoff_texts_mean : PayoffTextsMean
payoff_texts_mean bytes b asked text spelled is =
    let d = b.declarations in
    let c = is.contr in
    let fits = texts_spellable bytes b spelled in
    let term = named_has (IsSpellable d) b asked.contract c is.can.named fits.each in
    let writable = named_has IsWritableTerm b asked.contract c is.can.named (texts_writable bytes b spelled) in
    let o = at_one_scale d in
    let code = code_plain o c (closed_at_one_scale d c term.closed) (accepted_at_one_scale d (instance (declared_numbers d) c) is.can.accepted) in
    let file = code_file_of d asked c in
    let file_fits : IsPrintableFile file = record {
      declarations = one_scale_spellable d fits.declarations;
      version = refl;
      name = name_fits b asked.contract c fits.contracts is.can.named;
      code = printable o c code asked.plain (terms_small c writable);
    } in
    record {
      contr = c;
      can = is.can;
      file = file;
      is_canon = is.is_canon;
      spelled = file_spelled decls_spelled text file file_fits is.is_canon;
      declarations = refl;
      name = refl;
      code = code_for o c code asked.plain;
    }
