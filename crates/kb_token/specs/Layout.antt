-- The layout, after kernel-install(8). How `auto` chooses is this project's own.
use Rattle.std.specs.Prelude.{ℕ, cond, List, Option, Some, None, codes, bytes_eq, Bool}
use Rattle.kb_token.specs.Lines.{lines_of, first_line}
use Rattle.kb_token.specs.Variable.{variable_value}
use Rattle.kb_token.specs.declared.layout.Layout.{Layout}
use Rattle.kb_token.specs.declared.layout.Layout.TheVariants.{Bls, Uki, Other, Auto}

-- the layout of this name; an empty one is auto, and any other name is other
abbrev pub layout_named : List ℕ → Layout
layout_named name =
    cond (bytes_eq name (codes "bls")) Bls (cond (bytes_eq name (codes "uki")) Uki (cond (bytes_eq name (codes "auto")) Auto (cond (bytes_eq name (codes "")) Auto Other)))

-- the last line `layout=` of an install.conf
abbrev pub conf_layout : List ℕ → Option (List ℕ)
conf_layout text = variable_value (codes "layout") (lines_of text)

abbrev pub by_srel : Option (List ℕ) → Bool → Layout
by_srel (Some text) token_dir = cond (bytes_eq (first_line text) (codes "type1")) Bls Other
by_srel None token_dir = cond token_dir Bls Other

-- What is asked for; else, where entries.srel is there, what its first line says; else whether the token's directory is
-- there.
abbrev pub chosen_layout : Layout → Option (List ℕ) → Bool → Layout
chosen_layout Bls srel token_dir = Bls
chosen_layout Uki srel token_dir = Uki
chosen_layout Other srel token_dir = Other
chosen_layout Auto srel token_dir = by_srel srel token_dir
