-- The full name of a file under a path.
use Rattle.std.specs.Prelude.{ℕ, ◌||◌, ◌==◌, nat_eq, List, ◌++◌, length, codes, if◌then◌else◌}
use Rattle.std.specs.List.{starts_with, ends_with}

-- the name itself where it begins with a stroke or the path is empty; else the path, a stroke where it has none at its end,
-- and the name
abbrev pub full_name : List ℕ → List ℕ → List ℕ
full_name path name =
    if starts_with nat_eq name (codes "/") || length path == 0 then name
    else if ends_with nat_eq path (codes "/") then path ++ name
    else path ++ codes "/" ++ name
