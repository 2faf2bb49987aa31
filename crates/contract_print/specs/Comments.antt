-- Whole lines of comments: each is `#`, then UTF-8 that has no line feed, which is what a comment may hold, and then a line
-- feed. `IsComments` says that bytes are such lines, one after another, or nothing at all.
use Rattle.std.specs.Prelude.{All, ◌≡◌, ◌≢◌, List, [], ◌∷◌, ◌++◌}
use Rattle.std.specs.List.{flat_map}
use Rattle.std.specs.Str.{IsUtf8}
use Rattle.contract_grammar.specs.Words.{Bytes}

-- what may stand between the `#` and the line feed
pub record IsCommentText (text : Bytes) : Type 0 where
  pub utf8 : IsUtf8 text
  pub one_line : All (λ b. b ≢ 10) text

abbrev pub comment_line : Bytes → Bytes
comment_line text = 35 ∷ text ++ 10 ∷ []

pub record IsComments (bytes : Bytes) : Type 0 where
  pub texts : List Bytes
  pub each : All IsCommentText texts
  pub is : bytes ≡ flat_map comment_line texts
