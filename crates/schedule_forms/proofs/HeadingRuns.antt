-- What a list of tokens makes of the first line and the declarations of a schedule file, whatever is expected behind them.
use Rattle.std.proofs.Common.{◌≡◌, ℕ, List, [], ◌∷◌, ◌++◌, refl, ap, ◌∙◌}
use Rattle.contract_grammar.specs.Tokens.{Tok}
use Rattle.contract_grammar.specs.Names.{DeclaredNames}
use Rattle.contract_parse.specs.Forms.{Form, Whole, Front, empty}
use Rattle.contract_parse.specs.Expecting.{Expected, Next, Open, Stops, run, step}
use Rattle.contract_grammar.specs.declared.faults.TextKind.{TextKind}
use Rattle.contract_grammar.specs.declared.faults.TextKind.TheVariants as kind
use Rattle.contract_parse.proofs.Passing.{run-end}
use Rattle.contract_parse.proofs.Steps.{run-next, run-refuse, run-same}
use Rattle.contract_parse.proofs.FrontTakes.{Takes}
use Rattle.schedule_forms.specs.PlanFronts.{PlanSymbol, plan_forms, plans_form}
use Rattle.schedule_forms.proofs.PlanFrontChoices.{Refused}
use Rattle.schedule_forms.proofs.HeadingFronts.{IsHeading, Meets, goes, stops, leaves, heading_parts, meets}

-- up to a fault
abbrev pub Faulty : Form PlanSymbol → List Tok → TextKind → Type 0
Faulty parts ts kind.Syntax = Front plan_forms parts ts → ⊥
Faulty parts ts kind.Number = Front plan_forms parts ts
Faulty parts ts kind.Date = Front plan_forms parts ts
Faulty parts ts kind.Deep = Front plan_forms parts ts
Faulty parts ts kind.Range = Front plan_forms parts ts
Faulty parts ts kind.Twice = Front plan_forms parts ts
Faulty parts ts kind.Unknown = Front plan_forms parts ts
Faulty parts ts kind.Utf8 = Front plan_forms parts ts

pub record Failed (parts : Form PlanSymbol) (ts : List Tok) (kind : TextKind) (left : ℕ) : Type 0 where
  pub before : List Tok
  pub at : Tok
  pub after : List Tok
  pub are : ts ≡ before ++ at ∷ after
  pub bytes_left : at.left ≡ left
  pub front : Front plan_forms parts before
  pub fault : Faulty parts (before ++ at ∷ []) kind

pub faulty_as : (a b : Form PlanSymbol) (ts us : List Tok) (k : TextKind) → (Front plan_forms b us → Front plan_forms a ts) → (Front plan_forms a ts → Front plan_forms b us) → Faulty a ts k → Faulty b us k
faulty_as a b ts us kind.Syntax on back x = λ y. x (on y)
faulty_as a b ts us kind.Number on back x = back x
faulty_as a b ts us kind.Date on back x = back x
faulty_as a b ts us kind.Deep on back x = back x
faulty_as a b ts us kind.Range on back x = back x
faulty_as a b ts us kind.Twice on back x = back x
faulty_as a b ts us kind.Unknown on back x = back x
faulty_as a b ts us kind.Utf8 on back x = back x

-- refused at the first token
first_faulty : (parts : Form PlanSymbol) (t : Tok) (k : TextKind) → Refused parts t k → Faulty parts (t ∷ []) k
first_faulty parts t kind.Syntax x = x []
first_faulty parts t kind.Number x = x
first_faulty parts t kind.Date x = x
first_faulty parts t kind.Deep x = x
first_faulty parts t kind.Range x = x
first_faulty parts t kind.Twice x = x
first_faulty parts t kind.Unknown x = x
first_faulty parts t kind.Utf8 x = x

pub failed_first : (parts : Form PlanSymbol) (t : Tok) (ts : List Tok) (k : TextKind) → Refused parts t k → Failed parts (t ∷ ts) k t.left
failed_first parts t ts k x = record { before = []; at = t; after = ts; are = refl; bytes_left = refl; front = empty; fault = first_faulty parts t k x }

-- or at a later one
pub failed_later : (parts next : Form PlanSymbol) (t : Tok) (ts : List Tok) (k : TextKind) (left : ℕ) → Takes plan_forms parts t next → Failed next ts k left → Failed parts (t ∷ ts) k left
failed_later parts next t ts k left takes x = record {
  before = t ∷ x.before;
  at = x.at;
  after = x.after;
  are = ap (λ l. t ∷ l) x.are;
  bytes_left = x.bytes_left;
  front = takes.back x.before x.front;
  fault = faulty_as next parts (x.before ++ x.at ∷ []) (t ∷ x.before ++ x.at ∷ []) k (λ y. takes.on (x.before ++ x.at ∷ []) y) (λ y. takes.back (x.before ++ x.at ∷ []) y) x.fault;
}

-- what is expected behind that begins with one of the tokens
pub record Leaves (s : DeclaredNames) (qs : List Expected) (ts : List Tok) : Type 0 where
  pub before : List Tok
  pub at : Tok
  pub after : List Tok
  pub are : ts ≡ before ++ at ∷ after
  pub declared : DeclaredNames
  pub runs : (ps : List Expected) → run s (qs ++ ps) ts ≡ run declared ps (at ∷ after)
  pub front : Front plan_forms (heading_parts qs) before
  pub on : (us : List Tok) → Front plan_forms (heading_parts qs) (before ++ at ∷ us) → Front plan_forms plans_form (at ∷ us)
  pub back : (us : List Tok) → Front plan_forms plans_form (at ∷ us) → Front plan_forms (heading_parts qs) (before ++ at ∷ us)
  pub whole : (us rest : List Tok) → Whole plan_forms plans_form (at ∷ us) rest → Whole plan_forms (heading_parts qs) (before ++ at ∷ us) rest

-- the tokens end in the heading, or one is refused there, or what stands behind begins with one
pub data Runs (s : DeclaredNames) (qs : List Expected) (ts : List Tok) : Type 0 where
  ends : (next : List Expected) → ((ps : List Expected) → run s (qs ++ ps) ts ≡ Open (next ++ ps)) → Runs s qs ts
  stopped : (k : TextKind) (left : ℕ) → ((ps : List Expected) → run s (qs ++ ps) ts ≡ Stops k left) → Failed (heading_parts qs) ts k left → Runs s qs ts
  behind : Leaves s qs ts → Runs s qs ts

-- one more token at the front
module _ (s s2 : DeclaredNames) (qs next : List Expected) (t : Tok) (ts : List Tok) (is : (ps : List Expected) → step s (qs ++ ps) t ≡ Next s2 (next ++ ps)) (takes : Takes plan_forms (heading_parts qs) t (heading_parts next)) where
  first : (ps : List Expected) → run s (qs ++ ps) (t ∷ ts) ≡ run s2 (next ++ ps) ts
  first ps = run-next s s2 (qs ++ ps) (next ++ ps) t ts (is ps)

  onto : Runs s2 next ts → Runs s qs (t ∷ ts)
  onto (ends last more) = ends last (λ ps. first ps ∙ more ps)
  onto (stopped k left more failed) = stopped k left (λ ps. first ps ∙ more ps) (failed_later (heading_parts qs) (heading_parts next) t ts k left takes failed)
  onto (behind x) = behind (record {
    before = t ∷ x.before;
    at = x.at;
    after = x.after;
    are = ap (λ l. t ∷ l) x.are;
    declared = x.declared;
    runs = λ ps. first ps ∙ x.runs ps;
    front = takes.back x.before x.front;
    on = λ us y. x.on us (takes.on (x.before ++ x.at ∷ us) y);
    back = λ us y. takes.back (x.before ++ x.at ∷ us) (x.back us y);
    whole = λ us rest w. takes.whole (x.before ++ x.at ∷ us) rest (x.whole us rest w);
  })

met : (s : DeclaredNames) (qs : List Expected) (t : Tok) (ts : List Tok) → Meets s qs t → ((s2 : DeclaredNames) (next : List Expected) → IsHeading next → Runs s2 next ts) → Runs s qs (t ∷ ts)
met s qs t ts (goes s2 next heading is takes) more = onto s s2 qs next t ts is takes (more s2 next heading)
met s qs t ts (stops k is x) more = stopped k t.left (λ ps. run-refuse s (qs ++ ps) k t ts (is ps)) (failed_first (heading_parts qs) t ts k x)
met s qs t ts (leaves is skips) more = behind (record {
  before = [];
  at = t;
  after = ts;
  are = refl;
  declared = s;
  runs = λ ps. run-same s (qs ++ ps) ps t ts (is ps);
  front = empty;
  on = skips.on;
  back = skips.back;
  whole = skips.whole;
})

pub heading_runs : (ts : List Tok) (s : DeclaredNames) (qs : List Expected) → IsHeading qs → Runs s qs ts
heading_runs [] s qs heading = ends qs (λ ps. run-end s (qs ++ ps))
heading_runs (t ∷ ts) s qs heading = met s qs t ts (meets s qs t heading) (λ s2 next h. heading_runs ts s2 next h)
