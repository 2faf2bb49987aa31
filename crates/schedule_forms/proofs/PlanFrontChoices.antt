-- What one token makes of what may stand in a schedule file.
use Rattle.std.proofs.Common.{◌≡◌, List, [], ◌∷◌, inl, inr, map}
use Rattle.contract_grammar.specs.Tokens.{Tok}
use Rattle.contract_parse.specs.Forms.{Terminal, Nonterminal, Optional, Repeated, Form, Whole, absent, done, enough, Front, beyond}
use Rattle.contract_parse.specs.Fronts.{Symbol, text_forms}
use Rattle.contract_grammar.specs.declared.faults.TextKind.{TextKind}
use Rattle.contract_grammar.specs.declared.faults.TextKind.TheVariants as kind
use Rattle.contract_parse.proofs.FrontFacts.{of_optional, of_repeated}
use Rattle.contract_parse.proofs.FrontTakes.{Bars, BeginWithTokens, Takes, rests, symbol_bars}
use Rattle.contract_parse.proofs.FrontChoices.{starts as text_starts}
use Rattle.schedule_forms.specs.PlanFronts.{PlanSymbol, Shared, PlanLine, PlanSize, SignedNumber, plan_forms, shared_form}

shared_starts : (all : List (Form Symbol)) → BeginWithTokens all → BeginWithTokens (map shared_form all)
shared_starts [] begins = tt
shared_starts ([] ∷ more) begins = absurd begins
shared_starts ((Terminal test ∷ rest) ∷ more) begins = shared_starts more begins
shared_starts ((Nonterminal symbol ∷ rest) ∷ more) begins = absurd begins
shared_starts ((Optional symbol ∷ rest) ∷ more) begins = absurd begins
shared_starts ((Repeated symbol ∷ rest) ∷ more) begins = absurd begins

pub starts : (symbol : PlanSymbol) → BeginWithTokens (plan_forms symbol)
starts (Shared symbol) = shared_starts (text_forms symbol) (text_starts symbol)
starts PlanLine = tt
starts PlanSize = tt
starts SignedNumber = tt

-- ---- what is refused

abbrev pub Allows : Form PlanSymbol → Tok → Type 0
Allows parts t = Front plan_forms parts (t ∷ [])

-- of Syntax where no front goes on with the token, and of another kind where one does
abbrev pub Refused : Form PlanSymbol → Tok → TextKind → Type 0
Refused parts t kind.Syntax = Bars plan_forms parts t
Refused parts t kind.Number = Allows parts t
Refused parts t kind.Date = Allows parts t
Refused parts t kind.Deep = Allows parts t
Refused parts t kind.Range = Allows parts t
Refused parts t kind.Twice = Allows parts t
Refused parts t kind.Unknown = Allows parts t
Refused parts t kind.Utf8 = Allows parts t

-- ---- what is passed over

-- before this token nothing of the first parts stands
pub record Skips (parts : Form PlanSymbol) (t : Tok) (next : Form PlanSymbol) : Type 0 where
  pub on : (ts : List Tok) → Front plan_forms parts (t ∷ ts) → Front plan_forms next (t ∷ ts)
  pub back : (ts : List Tok) → Front plan_forms next (t ∷ ts) → Front plan_forms parts (t ∷ ts)
  pub whole : (ts rest : List Tok) → Whole plan_forms next (t ∷ ts) rest → Whole plan_forms parts (t ∷ ts) rest

pub skips_none : (parts : Form PlanSymbol) (t : Tok) → Skips parts t parts
skips_none parts t = record { on = λ ts x. x; back = λ ts x. x; whole = λ ts rest w. w }

pub skips_both : (a b c : Form PlanSymbol) (t : Tok) → Skips a t b → Skips b t c → Skips a t c
skips_both a b c t x y = record {
  on = λ ts z. y.on ts (x.on ts z);
  back = λ ts z. x.back ts (y.back ts z);
  whole = λ ts rest w. x.whole ts rest (y.whole ts rest w);
}

pub skips_takes : (a b next : Form PlanSymbol) (t : Tok) → Skips a t b → Takes plan_forms b t next → Takes plan_forms a t next
skips_takes a b next t x y = record {
  on = λ ts z. y.on ts (x.on ts z);
  back = λ ts z. x.back ts (y.back ts z);
  whole = λ ts rest w. x.whole (ts) rest (y.whole ts rest w);
}

pub skips_refused : (a b : Form PlanSymbol) (t : Tok) (k : TextKind) → Skips a t b → Refused b t k → Refused a t k
skips_refused a b t kind.Syntax x refused = λ ts z. refused ts (x.on ts z)
skips_refused a b t kind.Number x refused = x.back [] refused
skips_refused a b t kind.Date x refused = x.back [] refused
skips_refused a b t kind.Deep x refused = x.back [] refused
skips_refused a b t kind.Range x refused = x.back [] refused
skips_refused a b t kind.Twice x refused = x.back [] refused
skips_refused a b t kind.Unknown x refused = x.back [] refused
skips_refused a b t kind.Utf8 x refused = x.back [] refused

pub skips_optional : (symbol : PlanSymbol) (parts : Form PlanSymbol) (t : Tok) → rests (plan_forms symbol) t ≡ [] → Skips (Optional symbol ∷ parts) t parts
skips_optional symbol parts t none = record {
  on = λ ts x. elim (of_optional plan_forms symbol parts t ts x) [ inl y ↦ absurd (symbol_bars plan_forms starts symbol parts t none ts y) | inr y ↦ y ];
  back = λ ts x. beyond (absent done) x;
  whole = λ ts rest w. absent w;
}

pub skips_repeated : (symbol : PlanSymbol) (parts : Form PlanSymbol) (t : Tok) → rests (plan_forms symbol) t ≡ [] → Skips (Repeated symbol ∷ parts) t parts
skips_repeated symbol parts t none = record {
  on = λ ts x. elim (of_repeated plan_forms symbol parts t ts x) [ inl y ↦ absurd (symbol_bars plan_forms starts symbol (Repeated symbol ∷ parts) t none ts y) | inr y ↦ y ];
  back = λ ts x. beyond (enough done) x;
  whole = λ ts rest w. enough w;
}
