-- A file in a folder.
use Rattle.std.specs.Prelude.{ℕ, List, [], ◌∷◌, ◌++◌}
use Rattle.std.specs.Path.{path_join}

-- the file system, and the paths of the folder, the file and its spare
pub record FolderFileOf (F : Type 0) : Type 0 where
  pub files : F
  pub folder : List ℕ
  pub path : List ℕ
  pub spare : List ℕ

-- `.tmp`
abbrev pub spare_ending : List ℕ
spare_ending = 46 ∷ 116 ∷ 109 ∷ 112 ∷ []

-- the file of this name in this folder
abbrev pub file_in : {F : Type 0} → F → List ℕ → List ℕ → FolderFileOf F
file_in files folder name =
    let path = path_join folder name in
    record { files = files; folder = folder; path = path; spare = path ++ spare_ending }
