use Rattle.std.proofs.Common.{◌++◌, ◌∙◌, ap, cond, codes, bytes_eq, Some}
use Rattle.kb_real.specs.Children.{var_after, search_path}
use Rattle.kb_real.proofs.ChildLaws.{one_var}
use Rattle.kb_real.proofs.children.command_of.Goals as goal

pub returns : goal.returns
returns c =
    let (dir_program, dir_args) = c.in_ok-set_dir.ensures.call in
    let (path_program, path_args) = c.in_ok-set_var.ensures.call in
    let (vars_program, vars_args) = c.in_ok-set_vars.ensures.call in
    let (dir_clears, dir_vars) = c.in_ok-set_dir.ensures.env in
    let (args_clears, args_vars) = c.in_ok-add_args.ensures.env in
    let bare = c.in_ok-command.ensures in
    record {
      program = dir_program ∙ path_program ∙ vars_program ∙ c.in_ok-add_args.ensures.program ∙ bare.program ∙ c.as_str.ensures;
      args = dir_args ∙ path_args ∙ vars_args ∙ c.in_ok-add_args.ensures.args ∙ ap (λ before. before ++ c.as_slice.result.now) bare.args ∙ c.as_slice.ensures;
      nothing_else = dir_clears ∙ c.in_ok-set_var.ensures.clears ∙ c.in_ok-set_vars.ensures.clears ∙ args_clears ∙ bare.clears;
      vars = λ name. dir_vars name ∙ one_var c.set_vars.new.command c.set_var.new.command name (codes "PATH") search_path c.in_ok-set_var.ensures.set c.in_ok-set_var.ensures.others
          ∙ ap (cond (bytes_eq (codes "PATH") name) (Some (Some search_path))) (c.in_ok-set_vars.ensures.vars name ∙ ap (λ said. var_after name said c.as_slice-2.result.now) (args_vars name ∙ bare.vars name) ∙ ap (var_after name _) c.as_slice-2.ensures);
      dir = c.in_ok-set_dir.ensures.dir ∙ ap Some (c.as_str-3.ensures ∙ c.in_ok-text.ensures);
    }
