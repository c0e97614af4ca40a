pub mod PlateLaws
