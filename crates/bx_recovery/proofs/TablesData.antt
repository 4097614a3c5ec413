-- The answers of tables.
use Rattle.bx_ucd.specs.Data.{Data}
use Rattle.bx_ucd.specs.ClassTable.{class_in_table}
use Rattle.bx_ucd.specs.CodeMap.{value_in}
use Rattle.bx_ucd.specs.Forms.{form_in_map}
use Rattle.bx_ucd.specs.JoinedLetters.{type_in}
use Rattle.bx_ucd.specs.declared.tables.Tables.{Tables}

abbrev pub ucd : Tables → Data
ucd t = record {
  class = class_in_table t.classes;
  bracket = value_in t.brackets;
  mirror = value_in t.mirrors;
  joining = λ c. type_in t.joined (class_in_table t.classes c) c;
  form = form_in_map t.joined.forms;
}
