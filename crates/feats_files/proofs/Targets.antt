-- Targets of files, one after the other.
use Rattle.std.proofs.Common.{◌≡◌, ◌∙◌, ℕ, ◌<◌, ◌+◌, List, [], ◌∷◌, ◌++◌, sym, subst, ap, refl, map, take, drop, length, get_or, add-one, drop-cons, inl, inr}
use Rattle.std.proofs.lemmas.List.{map-append, take_more, take-append-drop}
use Rattle.cargo_workspaces.specs.Workspaces.{Text}
use Rattle.platform_specs.specs.Expressions.{Target}
use Rattle.feats_files.specs.Files.{AreTargetsOf, FileText, IsCfgRefusal, IsFirstCfgRefusal, IsTargetOf}
use Rattle.feats_files.specs.FileViews.{file_text}
use Rattle.feats_files.specs.declared.files.PlatformFile.{PlatformFile}

targets_push : (fs : List FileText) (ts : List Target) (f : FileText) (t : Target) → AreTargetsOf fs ts → IsTargetOf f.triple f.content t → AreTargetsOf (fs ++ f ∷ []) (ts ++ t ∷ [])
targets_push [] [] f t all is = (is, tt)
targets_push (g ∷ fs) (u ∷ ts) f t (first, rest) is = (first, targets_push fs ts f t rest is)
targets_push [] (u ∷ ts) f t all is = absurd all
targets_push (g ∷ fs) [] f t all is = absurd all

refused_after : (fs more : List FileText) (ts : List Target) (m : Text) → AreTargetsOf fs ts → IsFirstCfgRefusal more m → IsFirstCfgRefusal (fs ++ more) m
refused_after [] more [] m all is = is
refused_after (f ∷ fs) more (t ∷ ts) m (first, rest) is = inr (t, first, refused_after fs more ts m rest is)
refused_after [] more (t ∷ ts) m all is = absurd all
refused_after (f ∷ fs) more [] m all is = absurd all

files_more : (files : List PlatformFile) (i : ℕ) (f : PlatformFile) → i < length files → f ≡ get_or files i f → map file_text (take i files) ++ file_text f ∷ [] ≡ map file_text (take (i + 1) files)
files_more files i f within is =
    sym (ap (map file_text) (take_more files i f within) ∙ map-append file_text (take i files) (get_or files i f ∷ [])
    ∙ ap (λ (x : PlatformFile). map file_text (take i files) ++ file_text x ∷ []) (sym is))

-- one more target
pub targets_more : (files : List PlatformFile) (i : ℕ) (f : PlatformFile) (ts new : List Target) (t : Target) → i < length files → f ≡ get_or files i f → AreTargetsOf (map file_text (take i files)) ts
    → IsTargetOf f.triple.now f.bytes.items t → new ≡ ts ++ t ∷ [] → AreTargetsOf (map file_text (take (i + 1) files)) new
targets_more files i f ts new t within is all one grown =
    subst (λ fs. AreTargetsOf fs new) (files_more files i f within is) (subst (AreTargetsOf (map file_text (take i files) ++ file_text f ∷ [])) (sym grown) (targets_push (map file_text (take i files)) ts (file_text f) t all one))

parts_at : (files : List PlatformFile) (i : ℕ) (f : PlatformFile) → i < length files → f ≡ get_or files i f → map file_text files ≡ map file_text (take i files) ++ file_text f ∷ map file_text (drop (i + 1) files)
parts_at files i f within is =
    let at : drop i files ≡ get_or files i f ∷ drop (i + 1) files = rw (add-one, drop-cons files i f within) refl in
    ap (map file_text) (sym (take-append-drop i files))
    ∙ map-append file_text (take i files) (drop i files)
    ∙ ap (λ xs. map file_text (take i files) ++ map file_text xs) at
    ∙ ap (λ (x : PlatformFile). map file_text (take i files) ++ file_text x ∷ map file_text (drop (i + 1) files)) (sym is)

-- the first file that is no cfg text
pub targets_refused : (files : List PlatformFile) (i : ℕ) (f : PlatformFile) (ts : List Target) (m : Text) → i < length files → f ≡ get_or files i f → AreTargetsOf (map file_text (take i files)) ts
    → IsCfgRefusal f.triple.now f.bytes.items m → IsFirstCfgRefusal (map file_text files) m
targets_refused files i f ts m within is all one =
    subst (λ fs. IsFirstCfgRefusal fs m) (sym (parts_at files i f within is)) (refused_after (map file_text (take i files)) (file_text f ∷ map file_text (drop (i + 1) files)) ts m all (inl one))
