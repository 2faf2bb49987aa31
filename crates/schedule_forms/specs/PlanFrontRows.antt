-- Small schedule files, by hand: where they stop being fronts, so that the laws on fronts speak of something.
use Rattle.std.specs.Prelude.{◌≡◌, ℕ, List, [], ◌∷◌, ◌++◌, codes}
use Rattle.contract_grammar.specs.Tokens.{Tok, tokens}
use Rattle.contract_parse.specs.FrontRows.{at_left}
use Rattle.contract_grammar.specs.declared.token.LexemeKind.TheVariants.{Word, Number, Mark, End}
use Rattle.schedule_forms.specs.PlanFronts.{IsPlanFront, IsWholePlanFile}

-- the tokens before this one are a front, and with it they are none
pub record EndsPlanAt (bytes : List ℕ) (t : Tok) : Type 0 where
  pub before : List Tok
  pub after : List Tok
  pub are : tokens bytes ≡ before ++ t ∷ after
  pub front : IsPlanFront before
  pub none : IsPlanFront (before ++ t ∷ []) → ⊥

abbrev pub begun : List ℕ
begun = codes "schedules 1; amounts 2; "

abbrev pub leg : List ℕ
leg = codes "1.50 of E from A to B first 10 every 10 times 3"

abbrev pub great_leg : List ℕ
great_leg = codes "round(ceil, 99, E, 9999999, -2.0) of E from A to A first 9999999 every 0 times 0"

abbrev pub three_lines : List ℕ
three_lines =
    codes "leg x = " ++ leg ++ codes "; swap x = " ++ great_leg ++ codes " against " ++ leg ++ codes "; guarded x = " ++ leg
    ++ codes " until F covers -1;"

pub record PlanFrontRows : Type 0 where
  -- the version is 1, and the file is no portfolio
  pub other_version : EndsPlanAt (codes "schedules 2;") (at_left Number (codes "2") 2)
  pub portfolio_as_schedules : EndsPlanAt (codes "portfolio 1;") (at_left Word (codes "portfolio") 12)
  -- declarations are those of version 1, in their order, and end before plans
  pub decimals_of_asset : EndsPlanAt (begun ++ codes "asset E : 2") (at_left Mark (codes ":") 3)
  pub late_party : EndsPlanAt (begun ++ codes "start 1; asset E; party") (at_left Word (codes "party") 5)
  pub party_behind_plan : EndsPlanAt (begun ++ codes "leg x = " ++ leg ++ codes "; party") (at_left Word (codes "party") 5)
  pub contract_line : EndsPlanAt (begun ++ codes "contract") (at_left Word (codes "contract") 8)
  -- a line is not ended
  pub no_semicolon : EndsPlanAt (begun ++ codes "leg x = " ++ leg) (at_left End [] 0)
  -- a word that begins no line
  pub cut_word : EndsPlanAt (begun ++ codes "le") (at_left Word (codes "le") 2)
  -- a size is a decimal, or a number that is rounded
  pub word_as_size : EndsPlanAt (begun ++ codes "leg x = of") (at_left Word (codes "of") 2)
  pub obs_in_size : EndsPlanAt (begun ++ codes "leg x = round(floor, 2, obs") (at_left Word (codes "obs") 3)
  -- days have no sign and no point
  pub signed_day : EndsPlanAt (begun ++ codes "leg x = 1 of E from A to B first -") (at_left Mark (codes "-") 1)
  pub pointed_every : EndsPlanAt (begun ++ codes "leg x = 1 of E from A to B first 1 every 1.0") (at_left Number (codes "1.0") 3)
  -- a leg has no guard, a swap a second leg, and a guarded leg a cover
  pub guard_of_leg : EndsPlanAt (begun ++ codes "leg x = " ++ leg ++ codes " until") (at_left Word (codes "until") 5)
  pub swap_of_one : EndsPlanAt (begun ++ codes "swap x = " ++ leg ++ codes ";") (at_left Mark (codes ";") 1)
  pub no_cover : EndsPlanAt (begun ++ codes "guarded x = " ++ leg ++ codes " until F;") (at_left Mark (codes ";") 1)
  -- a reserved word is no name; the words of plans are reserved nowhere
  pub reserved_name : EndsPlanAt (begun ++ codes "leg in") (at_left Word (codes "in") 2)
  pub words_as_names : IsWholePlanFile (tokens (begun ++ codes "leg leg = 1 of of from from to to first 1 every 1 times 1;"))
  -- names and limits are left aside
  pub no_plans : IsWholePlanFile (tokens (codes "schedules 01; amounts 99; party A, A;"))
  pub three_plans : IsWholePlanFile (tokens (begun ++ three_lines))
