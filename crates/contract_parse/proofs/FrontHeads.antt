-- What the first token makes of a symbol that is expected: it begins at most one of the symbol's forms.
use Rattle.std.proofs.Common.{◌≡◌, ℕ, Bool, true, false, cond, Result, Ok, Err, [], ◌∷◌, ◌++◌, sym, subst}
use Rattle.std.specs.Prelude.{nat_lt}
use Rattle.contract_grammar.specs.Tokens.{Tok}
use Rattle.contract_grammar.specs.Words.{Bytes, is_the_mark, is_the_word}
use Rattle.contract_parse.specs.Heads.{greatest_depth, within_depth}
use Rattle.contract_parse.specs.Forms.{Nonterminal, Form, empty}
use Rattle.contract_parse.specs.Fronts.{Symbol, text_forms}
use Rattle.contract_parse.specs.Expecting.{Step, judged}
use Rattle.contract_grammar.specs.declared.terms.Language.{Language}
use Rattle.contract_grammar.specs.declared.faults.TextKind.{TextKind}
use Rattle.contract_grammar.specs.declared.faults.TextKind.TheVariants as kind
use Rattle.contract_grammar.specs.declared.token.LexemeKind.TheVariants.{Word, Mark}
use Rattle.contract_grammar.proofs.TokenKinds.{of_mark, of_word}
use Rattle.contract_parse.proofs.FrontTakes.{Takes, rests, symbol_bars, symbol_takes}
use Rattle.contract_parse.proofs.FrontChoices.{Allows, Stepped, starts}

module _ {H : Type 0} (l : Language) (symbol : Symbol) (parts : Form Symbol) (d : ℕ) (t : Tok) (judge : Tok → Result H TextKind) (next : H → Step) where
  abbrev P : Step → Type 0
  P st = Stepped (Nonterminal symbol ∷ parts) t st

  abbrev Onward : Form Symbol → Type 0
  Onward rest = Takes text_forms (Nonterminal symbol ∷ parts) t (rest ++ parts)

  -- of the form, and perhaps too deep
  deep_head : (h : H) (b : Bool) → Allows (Nonterminal symbol ∷ parts) t → P (next h) → P (judged (cond b (Err kind.Deep) (Ok h)) next)
  deep_head h true may ok = may
  deep_head h false may ok = ok

  deep_fault : (b : Bool) → Allows (Nonterminal symbol ∷ parts) t → P (judged (cond b (Err kind.Deep) (Err kind.Unknown)) next)
  deep_fault true may = may
  deep_fault false may = may

  pub head_stepped : (h : H) (rest : Form Symbol) → rests (text_forms symbol) t ≡ rest ∷ [] → (Onward rest → P (next h)) → P (judged (within_depth l d (Ok h)) next)
  head_stepped h rest begins ok =
      let takes = symbol_takes text_forms starts symbol rest parts t begins in
      deep_head h (nat_lt (greatest_depth l) d) (takes.back [] empty) (ok takes)

  -- of the form, but its value is at fault
  pub number_refused : (rest : Form Symbol) → rests (text_forms symbol) t ≡ rest ∷ [] → P (judged (within_depth l d (Err kind.Number)) next)
  number_refused rest begins = (symbol_takes text_forms starts symbol rest parts t begins).back [] empty

  pub unknown_refused : (rest : Form Symbol) → rests (text_forms symbol) t ≡ rest ∷ [] → P (judged (within_depth l d (Err kind.Unknown)) next)
  unknown_refused rest begins = deep_fault (nat_lt (greatest_depth l) d) ((symbol_takes text_forms starts symbol rest parts t begins).back [] empty)

  pub word_stepped : (w : Bytes) (h : H) (rest : Form Symbol) → is_the_word w t ≡ true → ((left : ℕ) → judge (record { kind = Word; text = w; left = left }) ≡ Ok h) → ((left : ℕ) → rests (text_forms symbol) (record { kind = Word; text = w; left = left }) ≡ rest ∷ [])
      → (Onward rest → P (next h)) → P (judged (within_depth l d (judge t)) next)
  word_stepped w h rest hit is begins ok =
      subst (λ r. P (judged (within_depth l d r) next)) (sym (of_word (λ z. judge z ≡ Ok h) w t hit (is t.left)))
      (head_stepped h rest (of_word (λ z. rests (text_forms symbol) z ≡ rest ∷ []) w t hit (begins t.left)) ok)

  pub mark_stepped : (m : Bytes) (h : H) (rest : Form Symbol) → is_the_mark m t ≡ true → ((left : ℕ) → judge (record { kind = Mark; text = m; left = left }) ≡ Ok h) → ((left : ℕ) → rests (text_forms symbol) (record { kind = Mark; text = m; left = left }) ≡ rest ∷ [])
      → (Onward rest → P (next h)) → P (judged (within_depth l d (judge t)) next)
  mark_stepped m h rest hit is begins ok =
      subst (λ r. P (judged (within_depth l d r) next)) (sym (of_mark (λ z. judge z ≡ Ok h) m t hit (is t.left)))
      (head_stepped h rest (of_mark (λ z. rests (text_forms symbol) z ≡ rest ∷ []) m t hit (begins t.left)) ok)

  pub none_stepped : judge t ≡ Err kind.Syntax → rests (text_forms symbol) t ≡ [] → P (judged (within_depth l d (judge t)) next)
  none_stepped none begins = subst (λ r. P (judged (within_depth l d r) next)) (sym none) (symbol_bars text_forms starts symbol parts t begins)
