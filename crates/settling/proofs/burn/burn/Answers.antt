-- `burn::burn` meets its contract.
-- Assumes nothing.
use Rattle.settling.proofs.burn.Written.{script_room, given_room, form_named, tree_named, list_fits, origin_burned, made_burned}
use mathlib.Core.Path.{refl}
use Rattle.polarity.specs.Forms.{form_list}
use Rattle.trees.specs.Least.{tree_list}
use Rattle.settling.proofs.burn.burn.Goals as goal

pub burn_list-requires : goal.burn_list-requires
burn_list-requires c = record { record_width_len = c.requires.result_whole; list_len_bound = script_room _ _ _ _ _ _ c.requires c.in-Script.is }

pub burn_list-requires-in-Given : goal.burn_list-requires-in-Given
burn_list-requires-in-Given c = record { record_width_len = c.requires.list_whole; list_len_bound = given_room _ _ _ _ _ _ c.requires c.in-Given.is }

pub burn_form-requires : goal.burn_form-requires
burn_form-requires c =
    let named = form_named _ _ _ _ _ _ c.requires _ c.in-Form.is in record { list_fits = list_fits _ _ _ _ _ _ c.requires _ c.in-Form.is named.0 _ refl; p_bound = named.1 }

pub burn_tree-requires : goal.burn_tree-requires
burn_tree-requires c =
    list_fits _ _ _ _ _ _ c.requires _ c.in-Tree.is (tree_named _ _ _ _ _ _ c.requires c.in-Tree.is) _ refl

pub returns-in-Script : goal.returns-in-Script
returns-in-Script c = origin_burned _ _ _ _ _ c.in-Script.is _ _ _ c.burn_list.ensures

pub returns-in-Given : goal.returns-in-Given
returns-in-Given c = origin_burned _ _ _ _ _ c.in-Given.is _ _ _ c.burn_list-in-Given.ensures

pub returns-in-Form : goal.returns-in-Form
returns-in-Form c =
    made_burned _ _ _ _ _ _ c.requires _ c.in-Form.is (form_named _ _ _ _ _ _ c.requires _ c.in-Form.is).0 (form_list c.args.n c.in-Form.p) refl _ _ _ c.burn_form.ensures

pub returns-in-Tree : goal.returns-in-Tree
returns-in-Tree c =
    made_burned _ _ _ _ _ _ c.requires _ c.in-Tree.is (tree_named _ _ _ _ _ _ c.requires c.in-Tree.is) (tree_list c.args.n) refl _ _ _ c.burn_tree.ensures
