-- What lasts in a replay, and the effects of keys on it.
use Rattle.std.proofs.Common.{◌≡◌, ℕ, Bool, true, false, List, Option, Some, refl, sym, ap, ◌∙◌, inl, inr, if◌then◌else◌}
use Rattle.std.specs.Prelude.{◌⊎◌, ◌&&◌, ◌||◌, not}
use Rattle.bx_keys.specs.declared.key.Key.{Key}
use Rattle.bx_keys.specs.declared.key.Key.TheVariants.{Drag, Point, Quit, Replace, Save, ScrollBack, ScrollOn}
use Rattle.bx_common.specs.declared.base.Base.{Base}
use Rattle.bx_text.specs.Edits.{Edited}
use Rattle.bx_ucd.specs.Data.{Data}
use Rattle.bx_view.specs.declared.moves.Goal.{Goal}
use Rattle.bx_editor.specs.declared.questions.answers.Prompt.{Prompt}
use Rattle.bx_editor.specs.declared.undo_groups.typing.Typing.{Typing}
use Rattle.bx_editor.specs.declared.search_state.SearchPurpose.{SearchPurpose}
use Rattle.bx_editor.specs.declared.search_state.SearchState.{SearchState}
use Rattle.bx_editor.specs.declared.clicks.Clicks.{Clicks}
use Rattle.bx_editor.specs.declared.clicks.Pressed.{Pressed}
use Rattle.bx_editor.specs.declared.cursor.Soft.{Soft}
use Rattle.bx_editor.specs.declared.answer.Answer.{Answer}
use Rattle.bx_editor.specs.declared.answer.Answer.TheVariants.{Erases, Moves, Passes, PutsIn, Scrolls}
use Rattle.bx_editor.specs.declared.input_line.Erasure.TheVariants.{WordBack, WordOn}
use Rattle.bx_editor.specs.Answering.{answer_of, without_line}
use Rattle.bx_editor.specs.Editor.{Editor}
use Rattle.bx_editor.specs.Effects.{Effect, Clicks as ClicksAt, Drags, Refuses, Saves, Wheels}
use Rattle.bx_editor.specs.Keys.{allowed_effect, changes_text, effect_of, is_save, refuses_replacing}
use Rattle.bx_editor.specs.Saving.{can_save, is_nameless}
use Rattle.bx_session_laws.specs.Recovery.{rests_on_top}
use Rattle.bx_session.specs.Parts.{is_quit}
use Rattle.bx_session.proofs.KeyKinds.{is_saving, save_kind, stores}

-- ---- lasting state

-- the parts of an editor that a Save and a Quit change in a replay too
pub record Lasting : Type 0 where
  pub content : Edited
  pub undo_groups : List ℕ
  pub place : ℕ
  pub mark : Option ℕ
  pub soft : Soft
  pub clicks : Option Clicks
  pub pressed : Option Pressed
  pub held : List ℕ
  pub whole_line : Bool
  pub query : List ℕ
  pub search_state : SearchState
  pub purpose : SearchPurpose
  pub origin : ℕ
  pub replacement : List ℕ
  pub at : ℕ
  pub count : ℕ
  pub prompt : Prompt
  pub answer : List ℕ
  pub input_cursor : ℕ
  pub pasted : Option (List ℕ)
  pub typing : Typing
  pub base : Base
  pub goal : Option Goal
  pub height : ℕ
  pub width : ℕ
  pub read_only : Bool
  pub auto_indent : Bool
  pub tab_width : ℕ

abbrev pub lasting : Editor → Lasting
lasting e = record {
  content = e.content;
  undo_groups = e.undo_groups;
  place = e.place;
  mark = e.mark;
  soft = e.soft;
  clicks = e.clicks;
  pressed = e.pressed;
  held = e.held;
  whole_line = e.whole_line;
  query = e.query;
  search_state = e.search_state;
  purpose = e.purpose;
  origin = e.origin;
  replacement = e.replacement;
  at = e.at;
  count = e.count;
  prompt = e.prompt;
  answer = e.answer;
  input_cursor = e.input_cursor;
  pasted = e.pasted;
  typing = e.typing;
  base = e.base;
  goal = e.goal;
  height = e.height;
  width = e.width;
  read_only = e.read_only;
  auto_indent = e.auto_indent;
  tab_width = e.tab_width;
}

-- an editor that has these parts of another one
abbrev pub having : Lasting → Editor → Editor
having l e = record e {
  content = l.content;
  undo_groups = l.undo_groups;
  place = l.place;
  mark = l.mark;
  soft = l.soft;
  clicks = l.clicks;
  pressed = l.pressed;
  held = l.held;
  whole_line = l.whole_line;
  query = l.query;
  search_state = l.search_state;
  purpose = l.purpose;
  origin = l.origin;
  replacement = l.replacement;
  at = l.at;
  count = l.count;
  prompt = l.prompt;
  answer = l.answer;
  input_cursor = l.input_cursor;
  pasted = l.pasted;
  typing = l.typing;
  base = l.base;
  goal = l.goal;
  height = l.height;
  width = l.width;
  read_only = l.read_only;
  auto_indent = l.auto_indent;
  tab_width = l.tab_width;
}

-- where the same lasts, one editor has all of the other's
pub own : (e f : Editor) → lasting e ≡ lasting f → having (lasting e) f ≡ f
own e f same = ap (λ l. having l f) same

-- ---- effects

-- a key that rests on no row of the picture, or with the same top
abbrev pub RestsAlike : Editor → Editor → Key → Type 0
RestsAlike e f key = (rests_on_top key ≡ false) ⊎ (f.top ≡ e.top)

-- a key that a replay applies as it is: no Quit, and none that stores the text; it rests on no row of the picture, or with the same top; and
-- both texts have a name, or neither
pub record Serves (e f : Editor) (key : Key) : Type 0 where
  pub goes_on : is_quit (Some key) ≡ false
  pub stores_nothing : stores e key ≡ false
  pub rests : RestsAlike e f key
  pub names : is_nameless f ≡ is_nameless e

-- the same outside a search and a question
pub record Presses (e f : Editor) (key : Key) : Type 0 where
  pub goes_on : is_quit (Some key) ≡ false
  pub saves_nothing : is_save key ≡ true → can_save e ≡ false
  pub rests : RestsAlike e f key
  pub names : is_nameless f ≡ is_nameless e

-- a key's effect is the same where the same lasts
effect_is : (d : Data) (e f : Editor) (key : Key) → effect_of d (having (lasting e) f) key ≡ effect_of d e key
effect_is d e f Quit = refl
effect_is d e f key = refl

pub allowed_is : (d : Data) (e f : Editor) (key : Key) → allowed_effect d (having (lasting e) f) key ≡ allowed_effect d e key
allowed_is d e f key = ap (λ (x : Effect). if changes_text key && e.read_only then Refuses else x) (effect_is d e f key)

pub refuses_alike : (e f : Editor) (key : Key) → refuses_replacing (having (lasting e) f) key ≡ refuses_replacing e key
refuses_alike e f Replace = refl
refuses_alike e f key = refl

-- which effects rest on the row that is shown first
abbrev pub rests : Effect → Bool
rests (ClicksAt row column) = true
rests (Drags row column) = true
rests (Wheels way) = true
rests _ = false

rests_if : (refused : Bool) (effect : Effect) → rests effect ≡ false → rests (if refused then Refuses else effect) ≡ false
rests_if true effect h = refl
rests_if false effect h = h

rests_kind : (d : Data) (e : Editor) (key : Key) → rests_on_top key ≡ false → rests (allowed_effect d e key) ≡ false
rests_kind d e (Point row column) h = absurd (cc h)
rests_kind d e (Drag row column) h = absurd (cc h)
rests_kind d e ScrollBack h = absurd (cc h)
rests_kind d e ScrollOn h = absurd (cc h)
rests_kind d e key h = rests_if (changes_text key && e.read_only) (effect_of d e key) refl

pub effect_rests : (d : Data) (e f : Editor) (key : Key) → RestsAlike e f key → (rests (allowed_effect d e key) ≡ false) ⊎ (f.top ≡ e.top)
effect_rests d e f key (inl none) = inl (rests_kind d e key none)
effect_rests d e f key (inr same) = inr same

-- the same of what a key means at a prompt
abbrev pub scrolls : Answer → Bool
scrolls (Scrolls way) = true
scrolls _ = false

answer_kind : (key : Key) → rests_on_top key ≡ false → scrolls (answer_of key) ≡ false
answer_kind ScrollBack h = absurd (cc h)
answer_kind ScrollOn h = absurd (cc h)
answer_kind key h = refl

without_kind : (answer : Answer) → scrolls answer ≡ false → scrolls (without_line answer) ≡ false
without_kind (Erases WordBack) h = refl
without_kind (Erases WordOn) h = refl
without_kind (Moves m) h = refl
without_kind PutsIn h = refl
without_kind Passes h = refl
without_kind answer h = h

pub answer_rests : (e f : Editor) (key : Key) → RestsAlike e f key → (scrolls (answer_of key) ≡ false) ⊎ (f.top ≡ e.top)
answer_rests e f key (inl none) = inl (answer_kind key none)
answer_rests e f key (inr same) = inr same

pub answer_rests_alone : (e f : Editor) (key : Key) → RestsAlike e f key → (scrolls (without_line (answer_of key)) ≡ false) ⊎ (f.top ≡ e.top)
answer_rests_alone e f key (inl none) = inl (without_kind (answer_of key) (answer_kind key none))
answer_rests_alone e f key (inr same) = inr same

-- a Save that stores nothing only asks for a name
asks_if : (reads nameless : Bool) → is_saving (if reads then Refuses else Saves) ≡ true → not (reads || nameless) ≡ false → nameless ≡ true
asks_if true nameless is h = absurd (cc is)
asks_if false true is h = refl
asks_if false false is h = absurd (cc h)

pub saves_no_name : (d : Data) (e : Editor) (key : Key) → (is_save key ≡ true → can_save e ≡ false) → is_saving (allowed_effect d e key) ≡ true
    → is_nameless e ≡ true
saves_no_name d e Save none is = asks_if e.read_only (is_nameless e) is (none refl)
saves_no_name d e key none is = let both : true ≡ false = sym is ∙ save_kind d e key refl in absurd (cc both)
