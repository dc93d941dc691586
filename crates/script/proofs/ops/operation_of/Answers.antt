use Rattle.script.proofs.ops.operation_of.Goals as goal

pub returns-in-insert_section : goal.returns-in-insert_section
returns-in-insert_section c = rw c.in-insert_section.is c.insert_section.ensures

pub returns-in-set_section_name : goal.returns-in-set_section_name
returns-in-set_section_name c = rw c.in-set_section_name.is c.set_section_name.ensures

pub returns-in-delete_section : goal.returns-in-delete_section
returns-in-delete_section c = rw c.in-delete_section.is c.delete_section.ensures

pub returns-in-move_section : goal.returns-in-move_section
returns-in-move_section c = rw c.in-move_section.is c.move_section.ensures

pub returns-in-insert_cell : goal.returns-in-insert_cell
returns-in-insert_cell c = rw c.in-insert_cell.is c.insert_cell.ensures

pub returns-in-delete_cell : goal.returns-in-delete_cell
returns-in-delete_cell c = rw c.in-delete_cell.is c.delete_cell.ensures

pub returns-in-restore_cell : goal.returns-in-restore_cell
returns-in-restore_cell c = rw c.in-restore_cell.is c.restore_cell.ensures
