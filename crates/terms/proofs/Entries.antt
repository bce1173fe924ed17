-- An entry made of what the rules say holds just that, and so does a table of such entries: by going along the table.
use mathlib.Core.Path.{◌≡◌, refl, ap}
use mathlib.Core.List.{List, [], ◌∷◌, map}
use Rattle.rules.specs.Lent.{Entry as RuleEntry}
use Rattle.terms.specs.Meaning.{entry_means, entry_for}
use Rattle.terms.specs.declared.Entry.{Entry}

pub entries_hold : (es : List RuleEntry) → map entry_means (map entry_for es) ≡ es
entries_hold [] = refl
entries_hold (e ∷ es) = ap (e ∷◌) (entries_hold es)

-- and an entry is made again of what it holds
pub entries_back : (es : List Entry) → map entry_for (map entry_means es) ≡ es
entries_back [] = refl
entries_back (e ∷ es) = ap (e ∷◌) (entries_back es)
